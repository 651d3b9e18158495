pub mod PageLists
mod WriteLists
mod StepLaws
mod TakenLaws
mod UnendedMaps
mod RowLaws
mod PlacedLaws
mod Rooms
mod FinishLaws
mod ChangeLaws
