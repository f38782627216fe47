pub mod HistoryGrants
