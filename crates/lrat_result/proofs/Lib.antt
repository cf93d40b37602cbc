mod Reports
mod ReportRead
pub mod Laws
