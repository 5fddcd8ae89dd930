-- A sender's line, one transmission after another, and the senders that a book knows.
pub mod LineRows
pub mod KnownSenders
pub mod RightRows
