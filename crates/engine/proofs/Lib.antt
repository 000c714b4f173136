-- The laws that the proofs of `engine` share, lowest first: what calls keep, the ends, ageing and setting up.
pub mod WatchLaws
pub mod HearingLaws
pub mod CallLaws
pub mod EndLaws
pub mod TwiceLaws
pub mod SameLaws
pub mod AgeLaws
pub mod WidenLaws
pub mod SetUpLaws
