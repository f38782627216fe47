pub mod CarriedStages
pub mod AnswersShow
pub mod DaemonsRunOn
pub mod AreaGoesOn
pub mod CourseLeads
pub mod LeadsToGrants
