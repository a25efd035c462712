pub mod ByteBlocks
