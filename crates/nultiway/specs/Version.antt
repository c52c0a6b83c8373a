-- The version that CHANGELOG.md has first: 0.2.0.
use Rattle.std.specs.Prelude.{ℕ, ◌+◌, ◌*◌}

-- 10,000 for a major step, 100 for a minor one, 1 for a patch
abbrev pub version : ℕ
version = 10000 * 0 + 100 * 2 + 0
