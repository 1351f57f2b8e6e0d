pub mod FieldForms
pub mod FieldLaws
