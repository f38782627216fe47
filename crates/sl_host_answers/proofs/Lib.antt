pub mod RequestsStand
pub mod LeasesStand
pub mod SurveysStand
pub mod OwnSectorsStand
pub mod WholeAnswersStand
