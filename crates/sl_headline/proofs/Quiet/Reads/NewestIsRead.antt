-- A sample of a place where nothing landed after the read was made is of the newest landing.
use Rattle.sl_area.specs.AreaLayout.{sector_of}
use Rattle.sl_words.proofs.Lists.{contains_first, there_is}
use Rattle.sl_words.proofs.Numbers.{both_next}
use Rattle.sl_headline.specs.Quiet.Reads.ReadsShowArea.{ReadsGiveWhatStands, StandsSince}
use Rattle.sl_run.specs.Safety.{world_at}
use Rattle.sl_run.specs.Worlds.{Course, Landing, Sampling, World, content, first_landing, landed_at}
use Rattle.sl_run_law.proofs.Sample.LandingNumbers.{newest_number, number_below}
use Rattle.sl_run_law.proofs.Sample.SampleLaws.{samples_are_landings}
use Rattle.sl_run_law.specs.Sample.Samples.{IsSampleOf, numbered_landing, sector_place}
use Rattle.sl_trace.specs.Traces.{same_place}
use Rattle.sl_words.proofs.CaseLaws.{one_value}
use Rattle.std.proofs.Common.{ap, arith, inl, inr, refl, subst, sym, ◌∙◌}
use Rattle.std.proofs.lemmas.Bool.{cases_lt}
use Rattle.std.proofs.lemmas.List.{length-append}
use Rattle.std.specs.Prelude.{Bool, Contains, List, None, Some, [], false, filter, find, if◌then◌else◌, length, suc, true, zero, ℕ, ◌++◌, ◌+◌, ◌<◌, ◌∷◌, ◌≡◌, ◌≤◌}

-- The newest of a place: its number, its bytes, and by when it came.
record IsTop (first : Landing) (step : ℕ) (p : Landing → Bool) (ls : List Landing) : Type 0 where
  landing : Landing
  seen : numbered_landing (filter p ls ++ first ∷ []) (length (filter p ls)) ≡ Some landing
  bytes : elim (find p ls) as (λ o. List ℕ) [ Some l ↦ l.bytes | None ↦ first.bytes ] ≡ landing.bytes
  came : landing.step ≤ step

one_longer : (ls : List Landing) (first : Landing) (n : ℕ) → n ≡ suc (length ls) → n ≡ length (ls ++ first ∷ [])
one_longer ls first n h = omega (arith, h, length-append ls (first ∷ []))

abbrev TopBy : Landing → ℕ → (Landing → Bool) → Landing → List Landing → Bool → Type 0
TopBy first step p x ls b =
    (l : Landing) × (numbered_landing ((if b then x ∷ filter p ls else filter p ls) ++ first ∷ []) (length (if b then x ∷ filter p ls else filter p ls)) ≡ Some l)
    × (elim (if b then Some x else find p ls) as (λ o. List ℕ) [ Some l ↦ l.bytes | None ↦ first.bytes ] ≡ l.bytes)
    × (l.step ≤ step)

top_by : (first : Landing) (step : ℕ) (p : Landing → Bool) (x : Landing) (ls : List Landing) (b : Bool) → (b ≡ true → x.step ≤ step) → IsTop first step p ls → TopBy first step p x ls b
top_by first step p x ls true this n =
    (x, newest_number x (filter p ls ++ first ∷ []) (suc (length (filter p ls))) (one_longer (filter p ls) first (suc (length (filter p ls))) refl), refl, this refl)
top_by first step p x ls false this n = (n.landing, n.seen, n.bytes, n.came)

has_later : (y x : Landing) (ys : List Landing) → Contains ys x → Contains (y ∷ ys) x
has_later y x ys c = (suc c.0, both_next c.0 (length ys) c.1, c.2)

top_of : (first : Landing) (step : ℕ) (p : Landing → Bool) (ls : List Landing) → first.step ≤ step → ((l : Landing) → Contains ls l → p l ≡ true → l.step ≤ step) → IsTop first step p ls
top_of first step p [] this each = record { landing = first; seen = newest_number first [] zero refl; bytes = refl; came = this }
top_of first step p (x ∷ ls) this each =
    let n = top_by first step p x ls (p x) (each x (contains_first x ls)) (top_of first step p ls this (λ l has. each l (has_later x l ls has))) in
    record { landing = n.0; seen = n.1; bytes = n.2; came = n.3 }

least_is : (n : ℕ) → 0 ≤ n
least_is n = omega arith

top : (w : World) (path : List ℕ) (offset step : ℕ) → StandsSince w path offset step → IsTop (first_landing w path offset) step (λ l. same_place l.path l.offset path offset) w.landings
top w path offset step h = top_of (first_landing w path offset) step (λ l. same_place l.path l.offset path offset) w.landings (least_is step) h

not_before : (made sample came : ℕ) → made < sample → sample < came → came ≤ made → ⊥
not_before made sample came a b c = omega (arith, a, b, c)

at_end : (i n m : ℕ) → m ≡ n + 1 → i < m → n ≤ i → i ≡ n
at_end i n m e h k = omega (arith, e, h, k)

one_more : {A : Type 0} (xs : List A) (y : A) → length (xs ++ y ∷ []) ≡ length xs + 1
one_more xs y = omega (arith, length-append xs (y ∷ []))

-- The sample's landing is the newest.
gives_top : (w : World) (c : Course) (k : ℕ) (s : Sampling) → IsSampleOf w c k s → StandsSince w c.call.path (sector_place w c k) c.made.step
    → sector_of w.layout c.sampled k ≡ content w c.call.path (sector_place w c k)
gives_top w c k s i stands =
    let offset : ℕ = sector_place w c k in
    let older : List Landing = landed_at w c.call.path offset in
    let first : Landing = first_landing w c.call.path offset in
    let t = top w c.call.path offset c.made.step stands in
    elim (cases_lt s.index (length older)) as (λ z. sector_of w.layout c.sampled k ≡ content w c.call.path offset) [
      | inl less ↦ absurd (not_before c.made.step s.step t.landing.step i.after.0 (i.before_next (length older) t.landing t.seen less).0 t.came)
      | inr ge ↦
          let same : s.index ≡ length older = at_end s.index (length older) (length (older ++ first ∷ [])) (one_more older first) (number_below (older ++ first ∷ []) s.index i.landing i.seen) ge in
          let one : i.landing ≡ t.landing = one_value i.landing t.landing (numbered_landing (older ++ first ∷ []) (length older)) (subst (λ n. numbered_landing (older ++ first ∷ []) n ≡ Some i.landing) same i.seen) t.seen in
          i.bytes ∙ ap (λ (l : Landing). l.bytes) one ∙ sym t.bytes
    ]

pub reads_give_what_stands : ReadsGiveWhatStands
reads_give_what_stands p h xs run m a c k at has within stands =
    let s = there_is c.samples k within in
    gives_top (world_at p h xs) c k s.0 (samples_are_landings p h xs run m a c k s.0 at has s.1) stands
