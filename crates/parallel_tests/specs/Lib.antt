pub mod ThreeChunks
