pub mod NothingIsCaused
