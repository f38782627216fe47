-- A record that is made of numbers in range and of bytes meets a value's rules.
use Rattle.sl_sector.proofs.ByteLaws.{test_from_bytes}
use Rattle.sl_sector.specs.Records.{Fits, IsValue}
use Rattle.sl_words.specs.Bounds.{most_hosts}
use Rattle.std.proofs.Common.{List, get_or, length, ℕ, ◌<◌, ◌≡◌, ◌≤◌}

pub value_made : (host lver seq : ℕ) (given kept : List ℕ) → host ≤ most_hosts → Fits lver → Fits seq → length given ≤ 256
    → ((i : ℕ) → get_or given i 0 < 256) → kept ≡ given → IsValue (record { host = host; lver = lver; seq = seq; bytes = kept })
value_made host lver seq given kept id low_lver low_seq few small same = record {
  host = id;
  lver = low_lver;
  seq = low_seq;
  bytes = rw same (few, test_from_bytes given small);
}
