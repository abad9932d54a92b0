pub mod Found
pub mod BytesOrder
