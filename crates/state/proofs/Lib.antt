-- The laws of the state's bytes: their layout, their form, and what the loops over them leave.
pub mod LayoutLaws
pub mod ClockLaws
pub mod FormLaws
pub mod PutLaws
pub mod PartLaws
pub mod StateLaws
pub mod TermLaws
pub mod FormLoops
pub mod RowLoops
pub mod RowLaws
pub mod OkLaws
pub mod StoreLaws
pub mod SeenLaws
pub mod LentLaws
pub mod StoredLaws
