-- The laws of calls, of a run, and of the bytes of a run.
pub mod SystemLaws
pub mod RunLaws
pub mod ByteLaws
