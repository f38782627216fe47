-- A read that samples more sees what it samples.
use Rattle.sl_words.proofs.Numbers.{less_than_next, next_is_most, refl_le, zero_least}
use Rattle.sl_run.specs.EventChanges.{next_step, sample_at, sampled_more}
use Rattle.sl_run.specs.Refusals.{sectors_of}
use Rattle.sl_run.specs.Worlds.{Course, Landing, Sampling, World, content, first_landing, history_of, landed_at, sector_size}
use Rattle.sl_run_law.specs.FatesStay.{Every}
use Rattle.sl_run_law.proofs.Sample.LandingNumbers.{newest_number, number_below, one_behind, sector_behind, sector_stays}
use Rattle.sl_run_law.proofs.Sample.SamplesSee.{Sees}
use Rattle.sl_run_law.specs.Sample.Samples.{IsSampleOf, SampledInOrder, numbered_landing}
use Rattle.sl_trace.specs.Traces.{same_place}
use Rattle.sl_words.proofs.CaseLaws.{none_some}
use Rattle.std.proofs.Common.{ap, arith, inl, inr, refl, subst, sym, ◌∙◌}
use Rattle.std.proofs.lemmas.List.{append-nil, append_assoc, length-append}
use Rattle.std.proofs.lemmas.Option.{slice_get_within}
use Rattle.std.specs.List.{range_with_len}
use Rattle.std.specs.Prelude.{Bool, List, None, Some, false, filter, find, flat_map, if◌then◌else◌, length, map, slice_get, suc, true, zero, [], ℕ, ◌*◌, ◌++◌, ◌+◌, ◌<◌, ◌∷◌, ◌≡◌, ◌≤◌, ◌⊎◌}

-- ---- the newest of a place

-- What landed came before the world's next step.
pub record HasLandings (w : World) : Type 0 where
  pub begun : 0 < w.step
  pub landed : Every (λ l. (l.step < w.step) × (l.moment ≤ w.moment)) w.landings

-- The newest of a place: its number, its bytes, and when it came.
record IsNewest (w : World) (path : List ℕ) (offset : ℕ) : Type 0 where
  landing : Landing
  seen : numbered_landing (history_of w path offset) (length (landed_at w path offset)) ≡ Some landing
  bytes : content w path offset ≡ landing.bytes
  came : (landing.step < w.step) × (landing.moment ≤ w.moment)

-- A list of landings with a first one behind.
record IsNewestOf (first : Landing) (step moment : ℕ) (p : Landing → Bool) (ls : List Landing) : Type 0 where
  landing : Landing
  seen : numbered_landing (filter p ls ++ first ∷ []) (length (filter p ls)) ≡ Some landing
  bytes : elim (find p ls) [ Some l ↦ l.bytes | None ↦ first.bytes ] ≡ landing.bytes
  came : (landing.step < step) × (landing.moment ≤ moment)

longer : {A : Type 0} (xs : List A) (y : A) → length (xs ++ y ∷ []) ≡ length xs + 1
longer xs y = omega (arith, length-append xs (y ∷ []))

one_longer : (ls : List Landing) (first : Landing) (n : ℕ) → n ≡ suc (length ls) → n ≡ length (ls ++ first ∷ [])
one_longer ls first n h = omega (arith, h, length-append ls (first ∷ []))

-- With one more in front, which is of the place or not.
abbrev NewestBy : Landing → ℕ → ℕ → (Landing → Bool) → Landing → List Landing → Bool → Type 0
NewestBy first step moment p x ls b =
    (l : Landing) × (numbered_landing ((if b then x ∷ filter p ls else filter p ls) ++ first ∷ []) (length (if b then x ∷ filter p ls else filter p ls)) ≡ Some l)
    × (elim (if b then Some x else find p ls) as (λ o. List ℕ) [ Some l ↦ l.bytes | None ↦ first.bytes ] ≡ l.bytes)
    × (l.step < step) × (l.moment ≤ moment)

newest_by : (first : Landing) (step moment : ℕ) (p : Landing → Bool) (x : Landing) (ls : List Landing) (b : Bool) → (x.step < step) × (x.moment ≤ moment)
    → IsNewestOf first step moment p ls → NewestBy first step moment p x ls b
newest_by first step moment p x ls true this n =
    (x, newest_number x (filter p ls ++ first ∷ []) (suc (length (filter p ls))) (one_longer (filter p ls) first (suc (length (filter p ls))) refl), refl, this.0, this.1)
newest_by first step moment p x ls false this n = (n.landing, n.seen, n.bytes, n.came.0, n.came.1)

newest_of : (first : Landing) (step moment : ℕ) (p : Landing → Bool) (ls : List Landing) → (first.step < step) × (first.moment ≤ moment)
    → Every (λ l. (l.step < step) × (l.moment ≤ moment)) ls → IsNewestOf first step moment p ls
newest_of first step moment p [] this each = record { landing = first; seen = newest_number first [] zero refl; bytes = refl; came = this }
newest_of first step moment p (x ∷ ls) this each =
    let n = newest_by first step moment p x ls (p x) each.0 (newest_of first step moment p ls this each.1) in
    record { landing = n.0; seen = n.1; bytes = n.2; came = (n.3, n.4) }

newest : (w : World) (path : List ℕ) (offset : ℕ) → HasLandings w → IsNewest w path offset
newest w path offset h =
    let n = newest_of (first_landing w path offset) w.step w.moment (λ l. same_place l.path l.offset path offset) w.landings (h.begun, zero_least w.moment) h.landed in
    record { landing = n.landing; seen = n.seen; bytes = n.bytes; came = n.came }

nothing_between : (i n m : ℕ) → m ≡ n + 1 → n < i → i < m → ⊥
nothing_between i n m e h k = omega (arith, e, h, k)

-- No landing of the place has a number above the newest's.
none_above : (w : World) (path : List ℕ) (offset i : ℕ) (l : Landing) → numbered_landing (history_of w path offset) i ≡ Some l → length (landed_at w path offset) < i → ⊥
none_above w path offset i l h above =
    nothing_between i (length (landed_at w path offset)) (length (history_of w path offset)) (longer (landed_at w path offset) (first_landing w path offset)) above
    (number_below (history_of w path offset) i l h)

-- ---- one sector more

-- The read with one sector more.
abbrev one_more : World → Course → Course
one_more w c =
    record c {
      sampled = c.sampled ++ content w c.call.path (c.call.offset + length c.samples * sector_size w);
      samples = c.samples ++ sample_at w c.call (length c.samples) ∷ [];
    }

-- What a read needs to sample.
pub record MaySample (w : World) (c : Course) : Type 0 where
  pub landings : HasLandings w
  pub sized : (path : List ℕ) (offset : ℕ) → length (content w path offset) ≡ w.layout.sector
  pub made : (c.made.step < w.step) × (c.made.moment ≤ w.moment)
  pub waits : c.answered ≡ None

one_size : (a b n m s : ℕ) → a ≡ n * s → b ≡ s → m ≡ n + 1 → a + b ≡ m * s
one_size a b n m s h k e =
    let all : (n + 1) * s ≡ n * s + s = omega arith in
    omega (arith, h, k, all, ap (λ x. x * s) e)

not_full : (a n : ℕ) → a < n → a ≡ n → ⊥
not_full a n h k = omega (arith, h, k)

-- The new sample shows the newest.
new_shows : (w : World) (c : Course) → MaySample w c → Sees (next_step w) c → IsSampleOf (next_step w) (one_more w c) (length c.samples) (sample_at w c.call (length c.samples))
new_shows w c may h =
    let n : ℕ = length c.samples in
    let at : ℕ = c.call.offset + n * sector_size w in
    let r = newest w c.call.path at may.landings in
    record {
      landing = r.landing;
      seen = r.seen;
      bytes = sector_behind c.sampled (content w c.call.path at) n w.layout.sector h.sized (may.sized c.call.path at) ∙ r.bytes;
      newest = r.came;
      before_next = λ i l seen above. absurd (none_above w c.call.path at i l seen above);
      after = may.made;
      before = λ t answered. absurd (none_some t (sym may.waits ∙ answered));
    }

old_shows : (w : World) (c : Course) (k : ℕ) (s : Sampling) → Sees (next_step w) c → slice_get c.samples k ≡ Some s → IsSampleOf (next_step w) (one_more w c) k s
old_shows w c k s h at =
    let i = h.shows k s at in
    let at' : ℕ = c.call.offset + length c.samples * sector_size w in
    record {
      landing = i.landing;
      seen = i.seen;
      bytes = sector_stays c.sampled (content w c.call.path at') k (length c.samples) w.layout.sector (slice_get_within c.samples k s at) h.sized ∙ i.bytes;
      newest = i.newest;
      before_next = i.before_next;
      after = i.after;
      before = i.before;
    }

not_beyond : (j k n : ℕ) → j ≡ n → k < n → j ≤ k → ⊥
not_beyond j k n e h l = omega (arith, e, h, l)

at_most_now : (n m : ℕ) → n < m + 1 → n ≤ m
at_most_now n m h = omega (arith, h)

-- The new one comes last.
one_in_order : (w : World) (c : Course) → Sees (next_step w) c → SampledInOrder (one_more w c)
one_in_order w c h j k u t first second le =
    by (one_behind c.samples s j u first) (one_behind c.samples s k t second)
  where
    s : Sampling
    s = sample_at w c.call (length c.samples)

    by : (slice_get c.samples j ≡ Some u) ⊎ ((j ≡ length c.samples) × (s ≡ u)) → (slice_get c.samples k ≡ Some t) ⊎ ((k ≡ length c.samples) × (s ≡ t)) → u.step ≤ t.step
    by (inl one) (inl two) = h.order j k u t one two le
    by (inl one) (inr new) = subst (λ (x : Sampling). u.step ≤ x.step) new.1 (at_most_now u.step w.step (h.past j u one).0)
    by (inr new) (inl two) = absurd (not_beyond j k (length c.samples) new.0 (slice_get_within c.samples k t two) le)
    by (inr one) (inr two) = subst (λ (x : Sampling). x.step ≤ t.step) one.1 (subst (λ (x : Sampling). s.step ≤ x.step) two.1 (refl_le s.step))

sees_one : (w : World) (c : Course) → MaySample w c → length c.samples < sectors_of c.call.op → Sees (next_step w) c → Sees (next_step w) (one_more w c)
sees_one w c may room h =
    let n : ℕ = length c.samples in
    let s : Sampling = sample_at w c.call n in
    let bytes : List ℕ = content w c.call.path (c.call.offset + n * sector_size w) in
    record {
      sized = length-append c.sampled bytes
          ∙ one_size (length c.sampled) (length bytes) n (length (c.samples ++ s ∷ [])) w.layout.sector h.sized (may.sized c.call.path (c.call.offset + n * sector_size w)) (longer c.samples s);
      few = subst (λ m. m ≤ sectors_of c.call.op) (sym (longer c.samples s)) (next_is_most n (sectors_of c.call.op) room);
      whole = λ done reads. absurd (not_full n (sectors_of c.call.op) room (h.whole done reads));
      made = h.made;
      past = λ k t at.
          elim (one_behind c.samples s k t at) as (λ z. (t.step < w.step + 1) × (t.moment ≤ w.moment)) [
            | inl old ↦ h.past k t old
            | inr new ↦ subst (λ (x : Sampling). (x.step < w.step + 1) × (x.moment ≤ w.moment)) new.1 (less_than_next w.step, refl_le w.moment)
          ];
      shows = λ k t at.
          elim (one_behind c.samples s k t at) as (λ z. IsSampleOf (next_step w) (one_more w c) k t) [
            | inl old ↦ old_shows w c k t h old
            | inr new ↦ subst (λ x. IsSampleOf (next_step w) (one_more w c) k x) new.1
                (subst (λ j. IsSampleOf (next_step w) (one_more w c) j s) (sym new.0) (new_shows w c may h))
          ];
      order = one_in_order w c h;
    }

-- ---- more sectors

none_more : (w : World) (c : Course) → sampled_more w zero c ≡ c
none_more w c =
    ap (λ (xs : List ℕ). record c { sampled = xs; samples = c.samples ++ [] }) (append-nil c.sampled)
    ∙ ap (λ (ss : List Sampling). record c { samples = ss }) (append-nil c.samples)

-- Sampling goes one sector after another.
more_again : (w : World) (k : ℕ) (c : Course) → sampled_more w k (one_more w c) ≡ sampled_more w (suc k) c
more_again w k c =
    let n : ℕ = length c.samples in
    let s : Sampling = sample_at w c.call n in
    let at : ℕ → List ℕ = λ i. content w c.call.path (c.call.offset + i * sector_size w) in
    ap (λ m. record c {
      sampled = (c.sampled ++ at n) ++ flat_map at (range_with_len m k);
      samples = (c.samples ++ s ∷ []) ++ map (sample_at w c.call) (range_with_len m k);
    }) (longer c.samples s)
    ∙ ap (λ xs. record c { sampled = xs; samples = (c.samples ++ s ∷ []) ++ map (sample_at w c.call) (range_with_len (n + 1) k) })
    (append_assoc c.sampled (at n) (flat_map at (range_with_len (n + 1) k)))
    ∙ ap (λ ss. record c { sampled = c.sampled ++ (at n ++ flat_map at (range_with_len (n + 1) k)); samples = ss })
    (append_assoc c.samples (s ∷ []) (map (sample_at w c.call) (range_with_len (n + 1) k)))

first_room : (a k n : ℕ) → a + suc k ≤ n → a < n
first_room a k n h = omega (arith, h)

room_again : (a b k n : ℕ) → b ≡ a + 1 → a + suc k ≤ n → b + k ≤ n
room_again a b k n e h = omega (arith, h, e)

-- A read that samples more, of the sectors that it hasn't, sees what was kept and what it samples.
pub sees_more : (w : World) (k : ℕ) (c : Course) → MaySample w c → length c.samples + k ≤ sectors_of c.call.op → Sees (next_step w) c → Sees (next_step w) (sampled_more w k c)
sees_more w zero c may room h = subst (λ d. Sees (next_step w) d) (sym (none_more w c)) h
sees_more w (suc k) c may room h =
    let s : Sampling = sample_at w c.call (length c.samples) in
    let d : Course = one_more w c in
    let may' : MaySample w d = record { landings = may.landings; sized = may.sized; made = may.made; waits = may.waits } in
    subst (λ x. Sees (next_step w) x) (more_again w k c)
    (sees_more w k d may' (room_again (length c.samples) (length d.samples) k (sectors_of c.call.op) (longer c.samples s) room)
    (sees_one w c may (first_room (length c.samples) k (sectors_of c.call.op) room) h))
