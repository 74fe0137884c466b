mod Apart
pub mod Assembled
pub mod Gathering
pub mod Newlines
pub mod OneBundle
pub mod OneDrvPath
pub mod Parted
pub mod Pieced
pub mod Placed
pub mod Said
pub mod Told
