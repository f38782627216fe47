-- What an answer changes.
pub mod AnswerMarksOneCall
pub mod AnswerFindsItsCall
pub mod AnswerIsHeeded
pub mod DeltaCallsHearAnswer
pub mod RenewingHearsAnswer
pub mod OpenBallotsAreOwn
pub mod LeaseHearsAnswer
pub mod MemberHearsAnswer
pub mod JobsHearAnswer
pub mod PresentAfterAnswer
pub mod QuietAfterAnswer
pub mod AnswersAreHeard
