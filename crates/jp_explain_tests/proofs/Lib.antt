pub mod LayoutLaws
pub mod Printing
pub mod RoomLaws
