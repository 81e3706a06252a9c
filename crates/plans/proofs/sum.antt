-- The sum's plan: its run as functions of words (Run), tests that ride beside carries (Ride), the comparison of the exponents (Compare), the order by them (Order), the exact difference beside
-- the first shift (Exact), whether b counts (Used), the shifts and what they lose (Lost, Shift, Kept), the aligned operand (Align), the sum with the sticky bit beside it (Ridden), the end-
-- around carry (Around), the leading zeros and the stages that shift by them (Leading, Normal), the exponent with tests beside it (Exponent, Tests), rounding, choice and result (Rounded,
-- Chosen, Closing), what b comes to (Told), a number next to a significand (Near), the cases of the definition (Cases), the theorem (Computes).
pub mod Run
pub mod Ride
pub mod Compare
pub mod Order
pub mod Exact
pub mod Lost
pub mod Shift
pub mod Used
pub mod Kept
pub mod Align
pub mod Ridden
pub mod Around
pub mod Leading
pub mod Normal
pub mod Exponent
pub mod Tests
pub mod Rounded
pub mod Chosen
pub mod Closing
pub mod Told
pub mod Near
pub mod Cases
pub mod Computes
