pub mod CourseStarts
pub mod QuietIsGranted
pub mod MadeRunsQuiet
