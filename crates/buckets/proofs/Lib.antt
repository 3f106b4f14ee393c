mod NumberLaws
mod ReportLaws
mod SizeLaws
pub mod CountLaws
