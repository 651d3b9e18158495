pub mod EditSame
pub mod ReplayLaws
pub mod RecountLaws
pub mod CountLaws
pub mod ExactLaws
