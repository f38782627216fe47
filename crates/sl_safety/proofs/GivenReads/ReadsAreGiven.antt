-- A resource's reads are given, with pairs or without; so they show what was answered ok when they began, or what was submitted later.
use Rattle.std.proofs.Common.{refl}
use Rattle.std.specs.Prelude.{Bool, Contains, List, Some, false, true, ℕ, ◌≡◌, ◌≤◌}
use Rattle.sl_safety.specs.Resources.HistoryLaws.{spot_of_line}
use Rattle.sl_safety.specs.Resources.SentCalls.{Sent, read_at, sender_of, step_of}
use Rattle.sl_run.specs.Runs.{Happening}
use Rattle.sl_run.specs.Safety.{LawfulRun, world_at}
use Rattle.sl_run.specs.Worlds.{Program, Stamp}
use Rattle.sl_run.specs.declared.header.Header.{Header}
use Rattle.sl_run.specs.declared.header.ResourceLine.{ResourceLine}
use Rattle.sl_safety.specs.Resources.Histories.{block_shown, is_host}
use Rattle.sl_safety.specs.Resources.Orders.{BlockSent, Follows, ReadsShowNewest}
use Rattle.sl_safety.specs.Resources.Reads.{ReadsAreGiven, ReadsGive}
use Rattle.sl_safety.proofs.GivenReads.PairedReads.{paired_are_given, paired_newest}
use Rattle.sl_safety.proofs.GivenReads.PlainReads.{plain_are_given, plain_newest}

by_kind : (p : Program) (h : Header) (xs : List Happening) (r : ResourceLine) → LawfulRun p h xs → Contains h.resources r → (b : Bool) → (world_at p h xs).layout.paired ≡ b
    → ReadsGive p h xs r
by_kind p h xs r run there false plain = plain_are_given p h xs r run plain there
by_kind p h xs r run there true paired = paired_are_given p h xs r run paired there

pub reads_are_given : ReadsAreGiven
reads_are_given p h xs r run there = by_kind p h xs r run there (world_at p h xs).layout.paired refl

newest_by : (p : Program) (h : Header) (xs : List Happening) → LawfulRun p h xs → (r : ResourceLine) → Contains h.resources r → (k : ℕ)
    → is_host (world_at p h xs) k ≡ true → (x : Sent) → BlockSent (world_at p h xs) r k x → x.course.done ≡ true → (s : Stamp) → x.course.answered ≡ Some s → (n : ℕ) (z : Sent)
    → read_at (world_at p h xs) (spot_of_line r) r.lockspace n ≡ Some z → s.step ≤ n → (m : ℕ) → block_shown (world_at p h xs) (spot_of_line r) k z ≡ Some m
    → ((y : Sent) → BlockSent (world_at p h xs) r k y → Follows (world_at p h xs) r k (sender_of x) (sender_of y)) → (b : Bool) → (world_at p h xs).layout.paired ≡ b → step_of x ≤ m
newest_by p h xs run r there k host x block done s told n z found late m shown follow false plain =
    plain_newest p h xs run r plain there k host x block done s told n z found late m shown follow
newest_by p h xs run r there k host x block done s told n z found late m shown follow true paired =
    paired_newest p h xs run r paired there k host x block done s told n z found late m shown

pub reads_show_newest : ReadsShowNewest
reads_show_newest p h xs r run there k host x block done s told n z found late m shown follow =
    newest_by p h xs run r there k host x block done s told n z found late m shown follow (world_at p h xs).layout.paired refl
