pub mod Repairs
pub mod Charts
pub mod Drawing
pub mod Texts
pub mod Laws
pub mod ClashCharts
pub mod ClashDrawing
pub mod ClashLaws
