-- Shares written apart from one another: what is read back, what stays, and the loop that writes them (Written).
pub mod Written
