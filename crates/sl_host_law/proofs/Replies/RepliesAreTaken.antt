-- What a reply changes.
pub mod ReplyEndsJob
pub mod QuietAfterReply
pub mod RepliesKeepHosts
