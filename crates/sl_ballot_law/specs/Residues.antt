-- Whose a ballot number is: among n hosts those of host k leave the remainder of k.
use Rattle.std.specs.Prelude.{if◌then◌else◌, ℕ, ◌%◌, ◌<◌, ◌==◌, ◌≡◌, ◌≤◌}

-- The host, from 1 to n, that has the remainder of m.
abbrev pub host_by_remainder : ℕ → ℕ → ℕ
host_by_remainder n m = if m % n == 0 then n else m % n

-- A number that leaves the remainder of a host is that host's.
abbrev pub RemaindersNameHosts : Type 0
RemaindersNameHosts = (n k m : ℕ) → 0 < k → k ≤ n → m % n ≡ k % n → host_by_remainder n m ≡ k
