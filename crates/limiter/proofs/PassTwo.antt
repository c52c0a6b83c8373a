-- Laws of a tick's pass two: the rates of the keys, and their quotas in the words of the key table.
pub mod RateLaws
pub mod QuotaLaws
