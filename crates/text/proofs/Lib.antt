mod Agreement
pub mod EncodingLaws
pub mod TextLaws
