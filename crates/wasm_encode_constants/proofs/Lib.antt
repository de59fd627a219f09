pub mod BytesReads
