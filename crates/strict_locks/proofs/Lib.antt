mod ClientSetLaws
mod GivingBack
mod HoldersLaws
mod IndexLaws
pub mod LockLaws
mod MadeLists
mod PutLaws
mod RowLaws
pub mod HeldLaws
