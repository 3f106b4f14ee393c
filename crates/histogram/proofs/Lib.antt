pub mod EnterLaws
pub mod ExponentLaws
pub mod InsertLaws
pub mod LaidLaws
pub mod RaiseLaws
pub mod StretchLaws
pub mod SurveyLaws
pub mod TailLaws
