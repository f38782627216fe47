-- A watch that is told of looks stands for the longer sightings.
use Rattle.sl_area.specs.AreaSizes.{Sizes, layout_of, program_digest}
use Rattle.sl_area.specs.AreaLayout.{read_at}
use Rattle.sl_sector.specs.FieldBytes.{delta_code}
use Rattle.sl_sector.specs.SectorLayouts.{decoded}
use Rattle.sl_sector.specs.declared.sector.Bad.{Bad}
use Rattle.sl_sector.specs.declared.sector.DeltaRec.{DeltaRec}
use Rattle.sl_sector.specs.declared.sector.DeltaState.TheVariants.{Claimed, Free, Live}
use Rattle.sl_sector.specs.declared.sector.DeltaState.{DeltaState}
use Rattle.sl_sector.specs.declared.sector.Rec.TheVariants.{DeltaIs}
use Rattle.sl_sector.specs.declared.sector.Rec.{Rec}
use Rattle.sl_trace.specs.Sightings.{new_run, run_with}
use Rattle.sl_trace.specs.declared.sighting.Run.{Run}
use Rattle.sl_trace.specs.declared.sighting.Sighting.{Sighting}
use Rattle.sl_watch.proofs.WatchLaws.{told_stands}
use Rattle.sl_watch.specs.SeenLooks.{seen_with}
use Rattle.sl_watch.specs.Summaries.{IsKept, IsKeptRun, IsSeen, IsSpelledBy, RunStands, Summary, bytes_with, freed_with, nothing_seen, summary_of, summary_with}
use Rattle.sl_watch.specs.ToldLooks.{AreTrue, WatchesAreTold, begun_run, delta_found, kept_run_with, kept_with, look_at, same_delta, same_host, told_all, told_at, told_of}
use Rattle.sl_watch.specs.Watches.{IsReadTrue, WatchStands, Watched, kept_at}
use Rattle.sl_watch.specs.declared.run.KeptRun.{KeptRun}
use Rattle.sl_watch.specs.declared.summary.Summary.{Summary as Kept}
use Rattle.sl_words.proofs.WordLaws.{and_true}
use Rattle.std.proofs.Common.{ap, arith, eq-eqb, refl, subst, suc, sym, zero, ◌∙◌}
use Rattle.std.proofs.lemmas.Bool.Decides.{nat_tests, same_from_decides}
use Rattle.std.proofs.lemmas.Bool.{eqb-true}
use Rattle.std.proofs.lemmas.List.{get_or-replicate, length-set}
use Rattle.std.proofs.lemmas.Slice.Eq.{bytes_eq-Decides}
use Rattle.std.specs.List.{range_with_len}
use Rattle.std.specs.Prelude.{Bool, IsTrue, List, None, Ok, Option, Result, Some, bytes_eq, cond, false, length, max, nat_lt, true, [], ℕ, ◌&&◌, ◌+◌, ◌-◌, ◌==◌, ◌∷◌, ◌≡◌, ◌≤◌, ◌↔◌}

-- ---- two records are one

state_is : (s t : DeltaState) → (delta_code s == delta_code t) ≡ true → s ≡ t
state_is Free Free e = refl
state_is Free Claimed e = absurd cc
state_is Free Live e = absurd cc
state_is Claimed Free e = absurd cc
state_is Claimed Claimed e = refl
state_is Claimed Live e = absurd cc
state_is Live Free e = absurd cc
state_is Live Claimed e = absurd cc
state_is Live Live e = refl

host_is : (a b : Option (List ℕ)) → same_host a b ≡ true → a ≡ b
host_is None None e = refl
host_is None (Some b) e = absurd cc
host_is (Some a) None e = absurd cc
host_is (Some a) (Some b) e = ap (λ x. Some x) ((bytes_eq-Decides a b).0 e)

host_itself : (a : Option (List ℕ)) → same_host a a ≡ true
host_itself None = refl
host_itself (Some a) = (bytes_eq-Decides a a).1 refl

-- Where the test holds they are the same.
pub one_delta : (a b : DeltaRec) → same_delta a b ≡ true → a ≡ b
unfolding same_delta
one_delta a b e =
    let f1 = and_true _ _ e in
    let f2 = and_true _ _ f1.1 in
    let f3 = and_true _ _ f2.1 in
    let f4 = and_true _ _ f3.1 in
    let f5 = and_true _ _ f4.1 in
    let f6 = and_true _ _ f5.1 in
    let f7 = and_true _ _ f6.1 in
    ap (λ s. record a { state = s }) (state_is a.state b.state f1.0)
    ∙ ap (λ n. record a { state = b.state; id = n }) (eqb-true a.id b.id f2.0)
    ∙ ap (λ n. record a { state = b.state; id = b.id; generation = n }) (eqb-true a.generation b.generation f3.0)
    ∙ ap (λ n. record b { seq = n; stamp = a.stamp; lockspace = a.lockspace; host = a.host; bitmap = a.bitmap }) (eqb-true a.seq b.seq f4.0)
    ∙ ap (λ n. record b { stamp = n; lockspace = a.lockspace; host = a.host; bitmap = a.bitmap }) (eqb-true a.stamp b.stamp f5.0)
    ∙ ap (λ n. record b { lockspace = n; host = a.host; bitmap = a.bitmap }) ((bytes_eq-Decides a.lockspace b.lockspace).0 f6.0)
    ∙ ap (λ o. record b { host = o; bitmap = a.bitmap }) (host_is a.host b.host f7.0)
    ∙ ap (λ n. record b { bitmap = n }) ((bytes_eq-Decides a.bitmap b.bitmap).0 f7.1)

both : (a b : Bool) → a ≡ true → b ≡ true → (a && b) ≡ true
both true b x y = y
both false b x y = absurd cc

-- And where they are the same it holds.
pub delta_itself : (a : DeltaRec) → same_delta a a ≡ true
unfolding same_delta
delta_itself a =
    both _ _ (eq-eqb (delta_code a.state) (delta_code a.state) refl)
    (both _ _ (eq-eqb a.id a.id refl)
    (both _ _ (eq-eqb a.generation a.generation refl)
    (both _ _ (eq-eqb a.seq a.seq refl)
    (both _ _ (eq-eqb a.stamp a.stamp refl)
    (both _ _ ((bytes_eq-Decides a.lockspace a.lockspace).1 refl)
    (both _ _ (host_itself a.host) ((bytes_eq-Decides a.bitmap a.bitmap).1 refl)))))))

one_of : (a b : DeltaRec) → DeltaIs a ≡ DeltaIs b → a ≡ b
one_of a b same = cc

-- So the test is any that tells whether they are.
pub by_records : (r : Bool) (a b : DeltaRec) → IsTrue r ↔ (DeltaIs a ≡ DeltaIs b) → r ≡ same_delta a b
by_records r a b tells =
    same_from_decides r (same_delta a b) (λ is. one_of a b (tells.0 is), λ same. tells.1 (ap (λ d. DeltaIs d) same))
    (one_delta a b, λ same. ap (λ d. same_delta a d) (sym same) ∙ delta_itself a)

-- ---- one look

-- A run of the sighting alone.
alone : (size : ℕ) (s : Sighting) (d : DeltaRec) (changed : Bool) → IsSpelledBy size s.bytes d → IsKeptRun size (begun_run s.before s.after d changed) (new_run s d changed)
alone size s d changed is =
    record {
      same = ap (λ bs. record { spelled = d; bytes = bs; since = s.after; latest = s.before; changed = changed }) (sym is.spelled);
      read = subst (λ bs. decoded program_digest bs ≡ Ok (DeltaIs d)) is.spelled is.read;
    }

ok_delta : (d e : DeltaRec) (r : Result Rec Bad) → r ≡ Ok (DeltaIs d) → r ≡ Ok (DeltaIs e) → d ≡ e
ok_delta d e r is it = (let same : Ok (DeltaIs d) ≡ Ok (DeltaIs e) = sym is ∙ it in cc)

true_false : (b : Bool) → b ≡ true → b ≡ false → ⊥
true_false b t f = absurd cc

run_adds : (size : ℕ) (run : Option KeptRun) (r : Option Run) (s : Sighting) (d : DeltaRec) (changed : Bool) → RunStands size run r → IsSpelledBy size s.bytes d
    → IsKeptRun size (kept_run_with run s.before s.after d changed) (run_with r s d changed)
run_adds size None None s d changed stands is = alone size s d changed is
run_adds size None (Some r) s d changed stands is = absurd stands
run_adds size (Some k) None s d changed stands is = absurd stands
run_adds size (Some k) (Some r) s d changed stands is = by (same_delta k.spelled d) refl where
  bytes_are : r.bytes ≡ bytes_with size k.spelled
  bytes_are = sym (ap (λ (x : Run). x.bytes) stands.same)

  goes : Bool → Run
  goes b = elim b as (λ z. Run) [ true ↦ record r { latest = s.before } | false ↦ new_run s d changed ]

  by : (b : Bool) → same_delta k.spelled d ≡ b → IsKeptRun size (cond b (record k { latest = s.before }) (begun_run s.before s.after d changed)) (goes (bytes_eq r.bytes s.bytes))
  by true e =
      let one : k.spelled ≡ d = one_delta k.spelled d e in
      let same : bytes_eq r.bytes s.bytes ≡ true = (bytes_eq-Decides r.bytes s.bytes).1 (bytes_are ∙ ap (bytes_with size) one ∙ sym is.spelled) in
      subst (λ b. IsKeptRun size (record k { latest = s.before }) (goes b)) (sym same)
      (record { same = ap (λ (x : Run). record x { latest = s.before }) stands.same; read = stands.read })
  by false e = others (bytes_eq r.bytes s.bytes) refl where
    others : (b : Bool) → bytes_eq r.bytes s.bytes ≡ b → IsKeptRun size (begun_run s.before s.after d changed) (goes b)
    others false differ = alone size s d changed is
    others true same =
        let bytes : bytes_with size k.spelled ≡ s.bytes = sym bytes_are ∙ (bytes_eq-Decides r.bytes s.bytes).0 same in
        let one : k.spelled ≡ d = ok_delta k.spelled d (decoded program_digest s.bytes) (subst (λ bs. decoded program_digest bs ≡ Ok (DeltaIs k.spelled)) bytes stands.read) is.read in
        let held : same_delta k.spelled d ≡ true = ap (λ x. same_delta x d) one ∙ delta_itself d in
        absurd (true_false (same_delta k.spelled d) held e)

kept_adds : (size : ℕ) (k : Kept) (m : Summary) (s : Sighting) (o : Option DeltaRec) → IsKept size k m → IsSeen size s.bytes o → IsKept size (kept_with k s.before s.after o) (summary_with m s o)
kept_adds size k m s None is spelled = record { newest = is.newest; freed = is.freed; any = refl; run = tt }
kept_adds size k m s (Some d) is spelled =
    record {
      newest = ap (λ n. max d.generation n) is.newest;
      freed = ap (λ n. freed_with n k.freed d) is.newest ∙ ap (λ f. freed_with m.newest f d) is.freed;
      any = refl;
      run = subst (λ b. IsKeptRun size (kept_run_with k.run s.before s.after d k.any) (run_with m.run s d b)) is.any (run_adds size k.run m.run s d k.any is.run spelled);
    }

-- Told of one id.
pub one_told : (w : Watched) (seen : ℕ → List Sighting) (id : ℕ) (s : Sighting) → WatchStands w seen → 1 ≤ id → id ≤ w.sizes.hosts → length w.ids ≡ w.sizes.hosts
    → length s.bytes ≡ w.sizes.sector → IsReadTrue s.bytes → WatchStands (told_at s.before s.after id (decoded program_digest s.bytes) w) (seen_with id s seen)
one_told w seen id s stands one most count long is =
    told_stands w seen id s (decoded program_digest s.bytes) (kept_with (kept_at w id) s.before s.after (delta_found id (decoded program_digest s.bytes))) stands one most count refl long is
    (λ m kept spelled. kept_adds w.sizes.sector (kept_at w id) m s (delta_found id (decoded program_digest s.bytes)) kept spelled)

-- ---- all of them

pub told_count : (before after : ℕ) (found : ℕ → Result Rec Bad) (ids : List ℕ) (w : Watched) → length (told_of before after found ids w).ids ≡ length w.ids
told_count before after found [] w = refl
told_count before after found (id ∷ ids) w = told_count before after found ids (told_at before after id (found id) w) ∙ length-set w.ids (id - 1) _

told_sizes : (before after : ℕ) (found : ℕ → Result Rec Bad) (ids : List ℕ) (w : Watched) → (told_of before after found ids w).sizes ≡ w.sizes
told_sizes before after found [] w = refl
told_sizes before after found (id ∷ ids) w = told_sizes before after found ids (told_at before after id (found id) w)

told_timing : (before after : ℕ) (found : ℕ → Result Rec Bad) (ids : List ℕ) (w : Watched) → (told_of before after found ids w).timing ≡ w.timing
told_timing before after found [] w = refl
told_timing before after found (id ∷ ids) w = told_timing before after found ids (told_at before after id (found id) w)

pub same_seen : (w : Watched) (seen other : ℕ → List Sighting) → ((id : ℕ) → 1 ≤ id → id ≤ w.sizes.hosts → seen id ≡ other id) → WatchStands w seen → WatchStands w other
same_seen w seen other are stands = record { each = λ id one most. subst (λ ss. IsKept w.sizes.sector (kept_at w id) (summary_of (layout_of w.sizes) id ss)) (are id one most) (stands.each id one most) }

-- The ids below this one have a look more.
abbrev upto : ℕ → (ℕ → Sighting) → (ℕ → List Sighting) → ℕ → List Sighting
upto n look seen id = cond (nat_lt id n) (look id ∷ seen id) (seen id)

all_told : (z : Sizes) (before after : ℕ) (bytes : List ℕ) (seen : ℕ → List Sighting) (n : ℕ) (a : ℕ) (w : Watched) → w.sizes ≡ z → length w.ids ≡ z.hosts → AreTrue z bytes → 1 ≤ a
    → a + n ≤ z.hosts + 1 → WatchStands w (upto a (look_at before after (layout_of z) bytes) seen)
    → WatchStands (told_of before after (λ id. read_at (layout_of z) bytes (id - 1)) (range_with_len a n) w) (upto (a + n) (look_at before after (layout_of z) bytes) seen)
all_told z before after bytes seen zero a w sizes count are one most stands =
    subst (λ k. WatchStands w (upto k (look_at before after (layout_of z) bytes) seen)) (omega arith) stands
all_told z before after bytes seen (suc n) a w sizes count are one most stands =
    let look : ℕ → Sighting = look_at before after (layout_of z) bytes in
    let v : Watched = told_at before after a (read_at (layout_of z) bytes (a - 1)) w in
    let here : WatchStands v (seen_with a (look a) (upto a look seen)) =
    one_told w (upto a look seen) a (look a) stands one (subst (λ (y : Sizes). a ≤ y.hosts) (sym sizes) (omega (arith, most))) (count ∙ sym (ap (λ (y : Sizes). y.hosts) sizes))
    (are.long a one (omega (arith, most)) ∙ sym (ap (λ (y : Sizes). y.sector) sizes)) (are.true_read a one (omega (arith, most)))
    in
    subst (λ k. WatchStands (told_of before after (λ id. read_at (layout_of z) bytes (id - 1)) (range_with_len (a + 1) n) v) (upto k look seen)) (omega arith)
    (all_told z before after bytes seen n (a + 1) v sizes (length-set w.ids (a - 1) _ ∙ count) are (omega arith) (omega (arith, most))
    (same_seen v (seen_with a (look a) (upto a look seen)) (upto (a + 1) look seen) (λ id low high. more look id (id == a) (nat_lt id a) (nat_lt id (a + 1)) refl refl refl) here)) where
      more : (look : ℕ → Sighting) (id : ℕ) (same below under : Bool) → (id == a) ≡ same → nat_lt id a ≡ below → nat_lt id (a + 1) ≡ under
          → elim same as (λ z. List Sighting) [ true ↦ look a ∷ cond below (look id ∷ seen id) (seen id) | false ↦ cond below (look id ∷ seen id) (seen id) ] ≡ cond under (look id ∷ seen id) (seen id)
      more look id true true under e f g = absurd (grind (arith, nat_tests, e, f))
      more look id true false true e f g = ap (λ k. look k ∷ seen id) (sym (eqb-true id a e))
      more look id true false false e f g = absurd (grind (arith, nat_tests, e, f, g))
      more look id false true true e f g = refl
      more look id false true false e f g = absurd (grind (arith, nat_tests, e, f, g))
      more look id false false true e f g = absurd (grind (arith, nat_tests, e, f, g))
      more look id false false false e f g = refl

pub watches_are_told : WatchesAreTold
watches_are_told =
    record {
      blank = λ timing sizes. record {
        each = λ id one most. subst (λ k. IsKept sizes.sector k (summary_of (layout_of sizes) id [])) (sym (get_or-replicate sizes.hosts (id - 1) nothing_seen nothing_seen (omega (arith, one, most))))
            (record { newest = refl; freed = refl; any = refl; run = tt });
      };
      all = λ w seen before after bytes stands count are.
          let look : ℕ → Sighting = look_at before after (layout_of w.sizes) bytes in
          same_seen (told_all before after (layout_of w.sizes) bytes w) (upto (1 + w.sizes.hosts) look seen) (λ id. look id ∷ seen id)
          (λ id one most. last look seen id (nat_lt id (1 + w.sizes.hosts)) (below w before after bytes id most))
          (all_told w.sizes before after bytes seen w.sizes.hosts 1 w refl count are (omega arith) (omega arith)
          (same_seen w seen (upto 1 look seen) (λ id one most. first look seen id (nat_lt id 1) (grind (arith, nat_tests, one))) stands));
      timing = λ w before after g bytes. told_timing before after (λ id. read_at g bytes (id - 1)) (range_with_len 1 w.sizes.hosts) w;
      sizes = λ w before after g bytes. told_sizes before after (λ id. read_at g bytes (id - 1)) (range_with_len 1 w.sizes.hosts) w;
      count = λ w before after g bytes. told_count before after (λ id. read_at g bytes (id - 1)) (range_with_len 1 w.sizes.hosts) w;
    } where
      first : (look : ℕ → Sighting) (seen : ℕ → List Sighting) (id : ℕ) (b : Bool) → b ≡ false → seen id ≡ cond b (look id ∷ seen id) (seen id)
      first look seen id false e = refl
      first look seen id true e = absurd cc

      last : (look : ℕ → Sighting) (seen : ℕ → List Sighting) (id : ℕ) (b : Bool) → b ≡ true → cond b (look id ∷ seen id) (seen id) ≡ look id ∷ seen id
      last look seen id true e = refl
      last look seen id false e = absurd cc

      below : (w : Watched) (before after : ℕ) (bytes : List ℕ) (id : ℕ) → id ≤ (told_all before after (layout_of w.sizes) bytes w).sizes.hosts → nat_lt id (1 + w.sizes.hosts) ≡ true
      below w before after bytes id most =
          let at : id ≤ w.sizes.hosts = subst (λ (y : Sizes). id ≤ y.hosts) (told_sizes before after (λ id. read_at (layout_of w.sizes) bytes (id - 1)) (range_with_len 1 w.sizes.hosts) w) most in
          grind (arith, nat_tests, at)
