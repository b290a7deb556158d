pub mod Pages
pub mod SoundPool
