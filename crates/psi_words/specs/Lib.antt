pub mod Forms
pub mod Grammar
pub mod Leads
pub mod Texts
