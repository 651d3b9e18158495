pub mod PairLaws
pub mod ValueLaws
pub mod ChangeLaws
pub mod NextLaws
pub mod BetweenLaws
