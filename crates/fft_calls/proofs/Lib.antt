-- A call on slots, of any operation of two operands (OnSlots).
mod OnSlots
