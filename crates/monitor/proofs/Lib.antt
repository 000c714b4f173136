-- The laws over the bytes that C lends: messages, demand 2, the calls, and the form that they keep.
pub mod MessageCalls
pub mod Demand2
pub mod CallLaws
pub mod FormKept
