-- What stands at a place, what lands there and what is sampled are whole sectors.
use Rattle.sl_area.specs.AreaSizes.{Layout, program_digest, sector_with}
use Rattle.sl_world_state.specs.Daemons.{IsSoundOp}
use Rattle.sl_world_state.specs.SaneWorlds.{IsSane, IsSaneMachine}
use Rattle.sl_world_law.proofs.FlightEvents.{the_flight}
use Rattle.sl_run.specs.EventChanges.{sample_at, sampled_more, write_bytes}
use Rattle.sl_run.specs.Refusals.{sectors_left, sectors_of}
use Rattle.sl_run.specs.Premises.{torn_bytes}
use Rattle.sl_run.specs.Worlds.{Course, Machine, World, content, flight_of, sector_size}
use Rattle.sl_run.specs.declared.header.Header.{Header}
use Rattle.sl_run_law.proofs.Landing.InitialRecords.{is_size}
use Rattle.sl_run_law.proofs.Landing.WholeSectors.{IsLaid, content_size}
use Rattle.sl_world_law.proofs.SaneCalls.{Keeps, ReadsWhole}
use Rattle.sl_sector.proofs.SpellingLaws.{length-spelling}
use Rattle.sl_sector.proofs.WrittenBytes.{sha256_is_digest}
use Rattle.sl_sector.specs.Records.{IsRecord}
use Rattle.sl_sector.specs.declared.sector.Rec.{Rec}
use Rattle.sl_text.specs.Forms.{Form}
use Rattle.sl_trace.specs.Traces.{is_write, record_of}
use Rattle.sl_trace.specs.declared.command.Command.{Command}
use Rattle.sl_trace.specs.declared.effects.Call.{Call}
use Rattle.sl_trace.specs.declared.effects.Op.TheVariants.{ReadSectors, WriteRecord}
use Rattle.sl_trace.specs.declared.effects.Op.{Op}
use Rattle.sl_words.proofs.CaseLaws.{false_is_true, one_value}
use Rattle.std.proofs.Common.{ap, ap₂, arith, refl, subst, suc, sym, zero, ◌∙◌}
use Rattle.std.proofs.lemmas.List.FromFn.{length-map-range_with_len}
use Rattle.std.proofs.lemmas.List.{length-append, length-drop, length-take-le}
use Rattle.std.specs.List.{range_with_len}
use Rattle.std.specs.Option.{option_map_or}
use Rattle.std.specs.Prelude.{List, Some, drop, flat_map, length, map, take, true, [], ℕ, ◌*◌, ◌++◌, ◌+◌, ◌-◌, ◌≡◌, ◌≤◌}

pub laid_out : {commands : Header → List (Form Command)} → (w : World) → IsSane commands w → IsLaid w
laid_out w is = record { digest = program_digest; is_digest = sha256_is_digest; layout = is.layout; header = is.header }

-- ---- what a write leaves

spelled_size : {commands : Header → List (Form Command)} → (w : World) → IsSane commands w → (r : Rec) → IsRecord r → length (sector_with w.layout r) ≡ sector_size w
spelled_size w is r sound =
    subst (λ (g : Layout). length (sector_with g r) ≡ g.sector) (sym is.layout)
    (length-spelling program_digest sha256_is_digest w.header.geometry.sector r (is_size w.header.geometry is.header.geometry) sound)

pub whole_size : {commands : Header → List (Form Command)} → (w : World) → IsSane commands w → (c : Call) → is_write c.op ≡ true → IsSoundOp c.op
    → length (write_bytes w c) ≡ sector_size w
whole_size w is c writes sound = go c.op writes sound
  where
    go : (op : Op) → is_write op ≡ true → IsSoundOp op → length (option_map_or (sector_with w.layout) (record_of op) []) ≡ sector_size w
    go (ReadSectors n) writes sound = absurd (false_is_true writes)
    go (WriteRecord r) writes sound = spelled_size w is r sound

three : (x y z : List ℕ) → length (x ++ y ++ z) ≡ length x + length y + length z
three x y z = length-append (x ++ y) z ∙ ap (λ n. n + length z) (length-append x y)

fills : (size n k front behind : ℕ) → front ≡ n → behind ≡ size - (n + k) → n + k ≤ size → front + k + behind ≡ size
fills size n k front behind f b fits = omega (arith, f, b, fits)

no_more : (size n k front : ℕ) → front ≡ size → n + k ≤ size → n ≤ front
no_more size n k front f fits = omega (arith, f, fits)

mixed_size : (size n : ℕ) (front middle behind : List ℕ) → length front ≡ size → length behind ≡ size → n + length middle ≤ size
    → length (take n front ++ middle ++ drop (n + length middle) behind) ≡ size
mixed_size size n front middle behind f b fits =
    three (take n front) middle (drop (n + length middle) behind)
    ∙ fills size n (length middle) (length (take n front)) (length (drop (n + length middle) behind))
    (length-take-le n front (no_more size n (length middle) (length front) f fits))
    (length-drop (n + length middle) behind ∙ ap (λ k. k - (n + length middle)) b) fits

pub torn_size : {commands : Header → List (Form Command)} → (w : World) → IsSane commands w → (c : Call) (n : ℕ) (middle : List ℕ) → is_write c.op ≡ true → IsSoundOp c.op
    → n + length middle ≤ sector_size w → length (torn_bytes w c n middle) ≡ sector_size w
torn_size w is c n middle writes sound fits = go c.op writes sound
  where
    go : (op : Op) → is_write op ≡ true → IsSoundOp op
        → length (elim op as (λ x. List ℕ) [
          | ReadSectors k ↦ []
          | WriteRecord r ↦ take n (sector_with w.layout r) ++ middle ++ drop (n + length middle) (content w c.path c.offset)
        ]) ≡ sector_size w
    go (ReadSectors k) writes sound = absurd (false_is_true writes)
    go (WriteRecord r) writes sound =
        mixed_size (sector_size w) n (sector_with w.layout r) middle (content w c.path c.offset) (spelled_size w is r sound)
        (content_size w c.path c.offset (laid_out w is) is.landings) fits

-- ---- what a read samples

pub sum_of_parts : (size : ℕ) (f : ℕ → List ℕ) (i k : ℕ) → ((j : ℕ) → length (f j) ≡ size) → length (flat_map f (range_with_len i k)) ≡ k * size
sum_of_parts size f i zero each = omega arith
sum_of_parts size f i (suc k) each =
    length-append (f i) (flat_map f (range_with_len (i + 1) k)) ∙ ap₂ (λ a b. a + b) (each i) (sum_of_parts size f (i + 1) k each) ∙ one_more size k
  where
    one_more : (s n : ℕ) → s + n * s ≡ suc n * s
    one_more s n = omega arith

-- A read with some sectors more has whole ones.
pub sampled_size : {commands : Header → List (Form Command)} → (w : World) → IsSane commands w → (k : ℕ) (x : Course) → k ≤ sectors_left x → ReadsWhole w x
    → ReadsWhole w (sampled_more w k x)
sampled_size w is k x few old = (
  length-append x.sampled more ∙ ap₂ (λ a b. a + b) old.0 size ∙ both (length x.samples) k (sector_size w) ∙ sym (ap (λ n. n * sector_size w) count),
  subst (λ n. n ≤ sectors_of x.call.op) (sym count) (let most = old.1 in omega (arith, most, few)),
)
  where
    more : List ℕ
    more = flat_map (λ i. content w x.call.path (x.call.offset + i * sector_size w)) (range_with_len (length x.samples) k)

    size : length more ≡ k * sector_size w
    size =
        sum_of_parts (sector_size w) (λ i. content w x.call.path (x.call.offset + i * sector_size w)) (length x.samples) k
        (λ j. content_size w x.call.path (x.call.offset + j * sector_size w) (laid_out w is) is.landings)

    both : (a b s : ℕ) → a * s + b * s ≡ (a + b) * s
    both a b s = omega arith

    count : length (x.samples ++ map (sample_at w x.call) (range_with_len (length x.samples) k)) ≡ length x.samples + k
    count =
        length-append x.samples (map (sample_at w x.call) (range_with_len (length x.samples) k))
        ∙ ap (λ n. length x.samples + n) (length-map-range_with_len (sample_at w x.call) (length x.samples) k)

-- The call that is found samples.
pub sample_keeps : {commands : Header → List (Form Command)} → (w : World) → IsSane commands w → (a : Machine) → IsSaneMachine w a → (c : ℕ) (x : Course) → flight_of a c ≡ Some x
    → (k : ℕ) → k ≤ sectors_left x → Keeps w a c (sampled_more w k)
sample_keeps w is a sane c x there k few =
    record {
      call = λ y. refl;
      daemon = λ y. refl;
      made = λ y. refl;
      answered = λ y. refl;
      lands = λ y h. h;
      reads = λ y inside one opens old.
          let same : x ≡ y = one_value x y (flight_of a c) there (the_flight a c y sane.distinct inside one opens) in
          sampled_size w is k y (subst (λ z. k ≤ sectors_left z) same few) old;
    }
