-- of any kind of tag
pub mod Windows
pub mod Records
-- of ASCII tags
pub mod AsciiWindows
pub mod AsciiPromises
-- of CUC tags
pub mod CucTags
pub mod CucNaming
pub mod CucPromises
pub mod Once
pub mod Known
