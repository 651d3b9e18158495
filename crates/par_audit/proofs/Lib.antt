mod FollowLaws
mod MarkLaws
mod LevelLaws
mod PairLaws
mod PieceLaws
mod TableLaws
mod SameLaws
mod GarbageLaws
