-- What the history shows of a host by the block that a read shows, if it shows one; a number that is no host's is shown what stood there at
-- first.
use Rattle.std.proofs.Common.{ap, ◌∙◌}
use Rattle.std.specs.Prelude.{Option, Bool, List, None, Some, false, if◌then◌else◌, is_some, true, ℕ, ◌≡◌}
use Rattle.sl_safety.specs.Resources.HistoryLaws.{history_of_line, spot_of_line}
use Rattle.sl_safety.specs.Resources.SentCalls.{Sent, step_of}
use Rattle.sl_run.specs.Runs.{Happening}
use Rattle.sl_run.specs.Safety.{world_at}
use Rattle.sl_run.specs.Worlds.{Program, World}
use Rattle.sl_run.specs.declared.header.Header.{Header}
use Rattle.sl_run.specs.declared.header.ResourceLine.{ResourceLine}
use Rattle.sl_safety.specs.Resources.Histories.{block_shown, counts_own, is_host, own_before, shown_by, shows_by}
use Rattle.sl_words.specs.Words.{some_is}
use Rattle.std.specs.Option.{option_map_or}
use Rattle.sl_safety.proofs.Resources.AtSteps.{IsReadAt, read_found}

abbrev host_shows : World → ResourceLine → ℕ → Sent → Bool → Bool
host_shows w r k z host = if host then (if is_some (block_shown w (spot_of_line r) k z) then true else counts_own w (spot_of_line r) z k) else true

-- The step of that block, else of the one that the reader submitted last.
abbrev pub shown_or : World → ResourceLine → Sent → Option ℕ → ℕ
shown_or w r z o = elim o as (λ x. ℕ) [ Some n ↦ n | None ↦ option_map_or step_of (own_before w (spot_of_line r) z) 0 ]

abbrev host_shown : World → ResourceLine → ℕ → Sent → Bool → ℕ
host_shown w r k z host = if host then shown_or w r z (block_shown w (spot_of_line r) k z) else 0

pub others_at : (p : Program) (h : Header) (xs : List Happening) (r : ResourceLine) (n k : ℕ) → (history_of_line p h xs r).reads n ≡ true → is_host (world_at p h xs) k ≡ false
    → ((history_of_line p h xs r).shows n k ≡ true) × ((history_of_line p h xs r).shown n k ≡ 0)
others_at p h xs r n k reads host =
    let w : World = world_at p h xs in
    let b : IsReadAt w r n = read_found w r n reads in (
      ap (λ q. some_is (shows_by w (spot_of_line r) k) q) b.found ∙ ap (host_shows w r k b.sent) host,
      ap (λ q. option_map_or (shown_by w (spot_of_line r) k) q 0) b.found ∙ ap (host_shown w r k b.sent) host,
    )
