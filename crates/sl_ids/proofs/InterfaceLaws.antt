-- What may be used of an id: over, evidence, generations.
use Rattle.sl_ids.proofs.ClaimLandings.{writer_is}
use Rattle.sl_ids.proofs.StateLaws.{apart_claims, by_moment, by_shown, by_writer, each, first_lower, first_over, one_place, only_one, same_session}
use Rattle.sl_ids.proofs.WholeRuns.{reached_kept, run_kept, step_kept}
use Rattle.sl_ids.specs.Interface.{EarlierAreOver, Evidence, EvidenceMeansOver, Freed, GenerationNamesOne, GenerationsRise, HasJoined, IsOver, Newer, NobodyElseWrites, OneIsOver, OverIsFinal, Own, Silent}
use Rattle.sl_ids.specs.Invariant.{Invariant}
use Rattle.sl_ids.specs.Runs.{IsBounded, RunsTo}
use Rattle.sl_ids.specs.State.{Content, Free, Kind, Live, Session, SessionId, State, moment, shown}
use Rattle.sl_ids.specs.Steps.{ChangesOnly, Decides, Ends, Lands, Lands_claim, Lands_own, Leaving, Loses, Passes, Renewal, Renews, SameLandings, Step, Tears_claim, Torn, Verifies, Write, after_claim, after_deciding, after_end, after_losing, after_renewal, after_verifying, after_writing, spelled_by}
use Rattle.sl_ids.specs.Terms.{Terms}
use Rattle.sl_words.proofs.CaseLaws.{not_both, one_value, true_or_false}
use Rattle.sl_words.proofs.OrderLaws.{less_or_same}
use Rattle.std.proofs.Common.{List, None, Option, Some, ap, arith, false, inl, inr, refl, subst, sym, true, [], ℕ, ◌+◌, ◌<◌, ◌∙◌, ◌∷◌, ◌≡◌, ◌≤◌, ◌⊎◌}
use Rattle.std.proofs.lemmas.Bool.{cases_lt}

-- ---- what a session keeps

pub record Goes (count : ℕ) (s t : Session) : Type 0 where
  pub over : s.over ≡ true → t.over ≡ true
  pub verified : s.verified ≡ true → (t.verified ≡ true) × (t.generation ≡ s.generation) × (t.claim ≡ s.claim)
  pub joined : s.joined ≡ true → t.joined ≡ true
  pub no_join : s.over ≡ true → t.joined ≡ true → s.joined ≡ true
  pub fresh : t.verified ≡ true → (s.verified ≡ true) ⊎ (count ≤ t.claim + 1)

-- In one step a session joins only while it is verified and not over.
pub record Joins (s t : Session) : Type 0 where
  pub joins : s.joined ≡ false → t.joined ≡ true → (s.verified ≡ true) × (s.over ≡ false) × (t.generation ≡ s.generation)

abbrev Keeps : ℕ → Session → Session → Type 0
Keeps count s t = Goes count s t × Joins s t

stays : (count : ℕ) (s : Session) → Keeps count s s
stays count s = (record { over = λ p. p; verified = λ p. (p, refl, refl); joined = λ p. p; no_join = λ p q. q; fresh = λ p. inl p }, record { joins = λ p q. absurd (not_both s.joined q p) })

changed : (w v : State) (s : SessionId) (next : Session) → ChangesOnly w v s next → Keeps w.count (w.session s) next → (j : SessionId)
    → Keeps w.count (w.session j) (v.session j)
changed w v s next t k = each (λ n x. Keeps w.count (w.session n) x) w v s next t k (λ j ne. stays w.count (w.session j))

step_keeps : (r : Terms) (w v : State) → Invariant r w → Step r w v → (j : SessionId) → Keeps w.count (w.session j) (v.session j)
step_keeps r w v i (Passes p) j = rw (p.sessions j) (stays w.count (w.session j))
step_keeps r w v i (Decides s p) j =
    let unverified : (w.session s).verified ≡ true → ⊥ = λ q. not_both (w.session s).begun ((i.one s).verified q).0 p.first in
    changed w v s (after_deciding p.last p.name (p.content.generation + 1) p.registered (w.session s)) p.changes
    (record { over = λ q. q; verified = λ q. absurd (unverified q); joined = λ q. q; no_join = λ q l. l; fresh = λ q. inl q }, record { joins = λ q l. absurd (not_both (w.session s).joined l q) }) j
step_keeps r w v i (Loses s p) j =
    changed w v s (after_losing (w.session s)) p.changes
    (record { over = λ q. q; verified = λ q. (q, refl, refl); joined = λ q. q; no_join = λ q l. l; fresh = λ q. inl q }, record { joins = λ q l. absurd (not_both (w.session s).joined l q) }) j
step_keeps r w v i (Tears_claim s p) j =
    changed w v s (after_losing (w.session s)) p.changes
    (record { over = λ q. q; verified = λ q. (q, refl, refl); joined = λ q. q; no_join = λ q l. l; fresh = λ q. inl q }, record { joins = λ q l. absurd (not_both (w.session s).joined l q) }) j
step_keeps r w v i (Lands_claim s p) j =
    changed w v s (after_claim w.count p.seq (w.session s)) p.changes
    (record { over = λ q. q; verified = λ q. absurd (not_both (w.session s).verified q ((i.one s).waits p.pending).2); joined = λ q. q; no_join = λ q l. l; fresh = λ q. inl q }, record { joins = λ q l. absurd (not_both (w.session s).joined l q) }) j
step_keeps r w v i (Verifies s p) j =
    let last = p.is_last in
    let within = ((i.one s).landed p.landed).2.within in
    let e = one_place r w i (w.session s).claim p.last p.content within (omega arith) p.own p.spelled in
    changed w v s (after_verifying p.registered (w.session s)) p.changes
    (record { over = λ q. q; verified = λ q. (refl, refl, refl); joined = λ q. q; no_join = λ q l. l; fresh = λ q. inr (omega arith) }, record { joins = λ q l. absurd (not_both (w.session s).joined l q) }) j
step_keeps r w v i (Lands_own s p) j = go p.write p.changes
  where
    go : (x : Write) → ChangesOnly w v s (after_writing x (w.session s)) → Keeps w.count (w.session j) (v.session j)
    go Torn t = changed w v s (w.session s) t (stays w.count (w.session s)) j
    go (Renewal seq) t =
        changed w v s (after_writing (Renewal seq) (w.session s)) t
        (record { over = λ q. q; verified = λ q. (q, refl, refl); joined = λ q. q; no_join = λ q l. l; fresh = λ q. inl q }, record { joins = λ q l. absurd (not_both (w.session s).joined l q) }) j
    go (Leaving seq) t =
        changed w v s (after_writing (Leaving seq) (w.session s)) t
        (record { over = λ q. refl; verified = λ q. (q, refl, refl); joined = λ q. q; no_join = λ q l. l; fresh = λ q. inl q }, record { joins = λ q l. absurd (not_both (w.session s).joined l q) }) j
step_keeps r w v i (Renews s p) j =
    changed w v s (after_renewal p.submitted (w.session s)) p.changes
    (record { over = λ q. q; verified = λ q. (q, refl, refl); joined = λ q. refl; no_join = λ q l. absurd (not_both (w.session s).over q p.not_over); fresh = λ q. inl q }, record { joins = λ q l. (p.verified, p.not_over, refl) }) j
step_keeps r w v i (Ends s p) j =
    changed w v s (after_end (w.session s)) p.changes
    (record { over = λ q. refl; verified = λ q. (q, refl, refl); joined = λ q. q; no_join = λ q l. l; fresh = λ q. inl q }, record { joins = λ q l. absurd (not_both (w.session s).joined l q) }) j

-- ---- what a run keeps

pub record Grows (w v : State) : Type 0 where
  pub now : w.now ≤ v.now
  pub count : w.count ≤ v.count
  pub old : (k : ℕ) → k < w.count → v.landing k ≡ w.landing k
  pub goes : (s : SessionId) → Goes w.count (w.session s) (v.session s)
  pub silent : (s : SessionId) → (w.session s).over ≡ true → (k : ℕ) → w.count ≤ k → k < v.count → (v.landing k).writer ≡ Some s → ⊥

same_grows : (w v : State) → w.now ≤ v.now → SameLandings w v → ((s : SessionId) → Goes w.count (w.session s) (v.session s)) → Grows w v
same_grows w v l same goes =
    let e = same.count in record { now = l; count = omega arith; old = same.old; goes = goes; silent = λ s o k g h. absurd (omega arith) }

lands_grows : (w v : State) (s : SessionId) (sp : Option Content) (next : Session) → ChangesOnly w v s next → Lands w v s sp
    → (w.session s).over ≡ false → ((j : SessionId) → Goes w.count (w.session j) (v.session j)) → Grows w v
lands_grows w v s sp next t lands n goes =
    let e = lands.count in
    let f = t.now in
    record {
      now = omega arith;
      count = omega arith;
      old = lands.old;
      goes = goes;
      silent = λ j o k g h p. (
          let z : k ≡ w.count = omega arith in
          let same : s ≡ j = writer_is (v.landing w.count) s j w.now sp lands.new (subst (λ (m : ℕ). (v.landing m).writer ≡ Some j) z p) in
          not_both (w.session j).over o (subst (λ (m : SessionId). (w.session m).over ≡ false) same n)
          );
    }

step_grows : (r : Terms) (w v : State) → Invariant r w → Step r w v → Grows w v
step_grows r w v i p = go p (λ j. (step_keeps r w v i p j).0)
  where
    go : Step r w v → ((j : SessionId) → Goes w.count (w.session j) (v.session j)) → Grows w v
    go (Passes p) g = same_grows w v p.later p.same g
    go (Decides s p) g = same_grows w v (let e = p.changes.now in omega arith) p.same g
    go (Loses s p) g = same_grows w v (let e = p.changes.now in omega arith) p.same g
    go (Tears_claim s p) g = lands_grows w v s None (after_losing (w.session s)) p.changes p.lands ((i.one s).waits p.pending).3 g
    go (Lands_claim s p) g = lands_grows w v s _ (after_claim w.count p.seq (w.session s)) p.changes p.lands ((i.one s).waits p.pending).3 g
    go (Verifies s p) g = same_grows w v (let e = p.changes.now in omega arith) p.same g
    go (Lands_own s p) g = lands_grows w v s (spelled_by (w.session s).name (w.session s).generation p.write) (after_writing p.write (w.session s)) p.changes p.lands p.not_over g
    go (Renews s p) g = same_grows w v (let e = p.changes.now in omega arith) p.same g
    go (Ends s p) g = same_grows w v (let e = p.changes.now in omega arith) p.same g

goes_both : (a b : ℕ) (s t u : Session) → a ≤ b → Goes a s t → Goes b t u → Goes a s u
goes_both a b s t u l p q = record {
  over = λ x. q.over (p.over x);
  verified = λ x. (let y = p.verified x in let z = q.verified y.0 in (z.0, z.1 ∙ y.1, z.2 ∙ y.2));
  joined = λ x. q.joined (p.joined x);
  no_join = λ x y. p.no_join x (q.no_join (p.over x) y);
  fresh = λ x. elim (q.fresh x) [
    | inr late ↦ inr (omega arith)
    | inl y ↦ elim (p.fresh y) [ inl z ↦ inl z | inr late ↦ inr (let same = (q.verified y).2 in omega arith) ]
  ];
}

grows_both : (w u v : State) → Grows w u → Grows u v → Grows w v
grows_both w u v p q = record {
  now = let a = p.now in let b = q.now in omega arith;
  count = let a = p.count in let b = q.count in omega arith;
  old = λ k h. q.old k (let a = p.count in omega arith) ∙ p.old k h;
  goes = λ s. goes_both w.count u.count (w.session s) (u.session s) (v.session s) p.count (p.goes s) (q.goes s);
  silent = λ s o k g h e. elim (cases_lt k u.count) [
    | inl lt ↦ p.silent s o k g lt (by_writer (v.landing k) (u.landing k) (Some s) (q.old k lt) e)
    | inr ge ↦ q.silent s ((p.goes s).over o) k ge h e
  ];
}

pub run_grows : (r : Terms) (us : List State) (w v : State) → Invariant r w → IsBounded r w → RunsTo r w us v → Grows w v
run_grows r [] w v i b e = subst (Grows w) e (same_grows w w (omega arith) (record { count = refl; old = λ k h. refl }) (λ s. (stays w.count (w.session s)).0))
run_grows r (u ∷ us) w v i b p = grows_both w u v (step_grows r w u i p.0) (run_grows r us u v (step_kept r w u i b p.1 p.0) p.1 p.2)

-- ---- the theorems

pub one_over : OneIsOver
one_over r w long p s t ne a b = let i = (reached_kept r w long p).0 in only_one r w i s t ne ((i.one s).joined a) ((i.one t).joined b)

pub over_stays : OverIsFinal
over_stays r w v long p l s o =
    let i = reached_kept r w long p in
    let g = run_grows r l.0 w v i.0 i.1 l.1 in
    ((g.goes s).over o, (g.goes s).no_join o, g.silent s o)

same_gen : (r : Terms) (w : State) → Invariant r w → (s t : SessionId) → (w.session s).verified ≡ true → (w.session t).verified ≡ true
    → (w.session s).generation ≡ (w.session t).generation → s ≡ t
same_gen r w i s t p q e =
    elim (same_session s t) [
      | inl same ↦ same
      | inr ne ↦ absurd (elim (apart_claims r w i s t ne p q) [
        | inl lt ↦ let m = first_lower r w i s t ne p q lt in omega arith
        | inr gt ↦ let m = first_lower r w i t s (λ f. ne (sym f)) q p gt in omega arith
      ])
    ]

pub names_one : GenerationNamesOne
names_one r w long p s t a b e = let i = (reached_kept r w long p).0 in same_gen r w i s t ((i.one s).joined a) ((i.one t).joined b) e

-- Beside a verified session that is not over each other verified one has a smaller generation.
lower : (r : Terms) (w : State) → Invariant r w → (s t : SessionId) → (s ≡ t → ⊥) → (w.session s).verified ≡ true
    → (w.session t).verified ≡ true → (w.session t).over ≡ false → (w.session s).generation < (w.session t).generation
lower r w i s t ne p q n =
    elim (apart_claims r w i s t ne p q) [
      | inl lt ↦ first_lower r w i s t ne p q lt
      | inr gt ↦ absurd (not_both (w.session t).over (first_over r w i t s (λ e. ne (sym e)) q p gt) n)
    ]

rise : (r : Terms) (us : List State) (w v : State) → Invariant r w → IsBounded r w → RunsTo r w us v → (s t : SessionId) → HasJoined w s
    → (w.session t).joined ≡ false → HasJoined v t → (w.session s).generation < (v.session t).generation
rise r [] w v i b e s t a n j = absurd (not_both (v.session t).joined j (subst (λ (u : State). (u.session t).joined ≡ false) e n))
rise r (u ∷ us) w v i b p s t a n j =
    let k = step_keeps r w u i p.0 in
    let next = step_kept r w u i b p.1 p.0 in
    let same = ((k s).0.verified ((i.one s).joined a)).1 in
    elim (true_or_false (u.session t).joined) [
      | inl now ↦
          let one = (k t).1.joins n now in
          let ne : s ≡ t → ⊥ = λ e. not_both (w.session t).joined (subst (λ (m : SessionId). (w.session m).joined ≡ true) e a) n in
          let lt = lower r w i s t ne ((i.one s).joined a) one.0 one.1 in
          let after = ((run_grows r us u v next p.1 p.2).goes t).verified ((next.one t).joined now) in
          let x = one.2 in let y = after.1 in omega arith
      | inr not ↦ let m = rise r us u v next p.1 p.2 s t ((k s).0.joined a) not j in omega arith
    ]

pub rises : GenerationsRise
rises r w v long p l s t a n j = let i = reached_kept r w long p in rise r l.0 w v i.0 i.1 l.1 s t a n j

pub earlier : EarlierAreOver
earlier r w v t long p d n s a =
    let i = (reached_kept r w long p).0 in
    let ne : s ≡ t → ⊥ = λ e. not_both (w.session t).joined (subst (λ (m : SessionId). (w.session m).joined ≡ true) e a) n in
    elim (only_one r w i s t ne ((i.one s).joined a) d.verified) [ inl o ↦ o | inr o ↦ absurd (not_both (w.session t).over o d.not_over) ]

-- ---- evidence

-- A session that is over and has the generation is the one.
is_it : (r : Terms) (w v : State) (generation : ℕ) → Invariant r v → Grows w v → (y : SessionId) → (w.session y).verified ≡ true
    → (w.session y).over ≡ true → (w.session y).generation ≡ generation → (s : SessionId) → (v.session s).verified ≡ true
    → (v.session s).generation ≡ generation → IsOver w s
is_it r w v generation i g y p o e s q f =
    let later = (g.goes y).verified p in
    let same = same_gen r v i y s later.0 q (later.1 ∙ (e ∙ sym f)) in
    subst (λ (m : SessionId). (w.session m).over ≡ true) same o

seen_over : (r : Terms) (w v : State) (generation : ℕ) → Invariant r w → IsBounded r w → Invariant r v → Grows w v → Evidence r w generation
    → (s : SessionId) → (v.session s).verified ≡ true → (v.session s).generation ≡ generation → IsOver w s
seen_over r w v generation i b iv g (Newer last content is_last spelled above) s q f =
    let o = iv.one s in
    let placed = (o.verified q).1 in
    let own = placed.generation in
    let within = placed.within in
    let grown = g.count in
    let there : shown v last ≡ Some content = by_shown (w.landing last) (v.landing last) (Some content) (sym (g.old last (omega arith))) spelled in
    let under : (v.session s).claim < last = elim (cases_lt (v.session s).claim last) [
      | inl lt ↦ lt
      | inr ge ↦ absurd (elim (less_or_same last (v.session s).claim ge) [
        | inl lt ↦ let m = iv.landings.generations last (v.session s).claim lt within content placed.content there placed.spelled in omega arith
        | inr e ↦
            let c = one_value content placed.content (shown v (v.session s).claim) (subst (λ (k : ℕ). shown v k ≡ Some content) e there) placed.spelled in
            let h : content.generation ≡ placed.content.generation = ap (λ (x : Content). x.generation) c in omega arith
      ])
    ] in
    elim ((g.goes s).fresh q) [
      | inr late ↦ absurd (omega arith)
      | inl was ↦ elim (true_or_false (w.session s).over) [
        | inl over ↦ over
        | inr not ↦
            let keep = (g.goes s).verified was in
            let x = keep.1 in
            let y = keep.2 in
            let writer = (i.one s).owner was not last (omega arith) (omega arith) in
            absurd (let z = ((i.one s).wrote last (omega arith) writer content spelled).generation in omega arith)
      ]
    ]
seen_over r w v generation i b iv g (Freed last content is_last spelled free named) s q f = go (w.landing last).writer refl
  where
    go : (o : Option SessionId) → (w.landing last).writer ≡ o → IsOver w s
    go None e = absurd (let z = ((i.landings.nobody last (omega arith) e).1 content spelled).1 in let some = ((iv.one s).verified q).2 in omega arith)
    go (Some y) e =
        let t = (i.one y).wrote last (omega arith) e content spelled in
        let done = t.free free in
        is_it r w v generation iv g y done.0 done.1 (sym t.generation ∙ named) s q f
seen_over r w v generation i b iv g (Silent u first last content reached later is_first spelled_first is_last spelled live named long) s q f = go (w.landing last).writer refl
  where
    free_live : (k : Kind) → k ≡ Free → k ≡ Live → ⊥
    free_live k a b = absurd cc

    seen : moment w last ≤ u.now
    seen =
        let iu = reached_kept r u i.terms reached in
        let gu = run_grows r later.0 u w iu.0 iu.1 later.1 in
        let grown = gu.count in
        let same = gu.old first (omega arith) in
        let there : shown w first ≡ Some content = by_shown (u.landing first) (w.landing first) (Some content) (sym same) spelled_first in
        let e = one_place r w i first last content (omega arith) (omega arith) there spelled in
        let past = iu.0.landings.past first (omega arith) in
        let a = by_moment (w.landing first) (u.landing first) same in
        let c : moment w first ≡ moment w last = ap (λ (k : ℕ). moment w k) e in
        omega arith

    go : (o : Option SessionId) → (w.landing last).writer ≡ o → IsOver w s
    go None e = absurd (free_live content.kind ((i.landings.nobody last (omega arith) e).1 content spelled).0 live)
    go (Some y) e =
        let t = (i.one y).wrote last (omega arith) e content spelled in
        let verified = t.live live in
        let over : (w.session y).over ≡ true = elim (true_or_false (w.session y).over) [
          | inl over ↦ over
          | inr not ↦ absurd (let x = b.acting y verified not in let z = ((i.one y).renewed verified not).live last is_last content spelled live in let m = seen in let enough = i.terms.silence in omega arith)
        ] in
        is_it r w v generation iv g y verified over (sym t.generation ∙ named) s q f
seen_over r w v generation i b iv g (Own o verified above) s q f =
    let later = (g.goes o).verified verified in
    let x = later.1 in
    let y = later.2 in
    let within = ((i.one o).verified verified).1.within in
    let ne : s ≡ o → ⊥ = λ e. let z : (v.session s).generation ≡ (v.session o).generation = ap (λ (m : SessionId). (v.session m).generation) e in omega arith in
    elim (apart_claims r v iv s o ne q later.0) [
      | inr gt ↦ absurd (let m = first_lower r v iv o s (λ e. ne (sym e)) later.0 q gt in omega arith)
      | inl lt ↦ elim ((g.goes s).fresh q) [
        | inr late ↦ absurd (omega arith)
        | inl was ↦ let z = ((g.goes s).verified was).2 in first_over r w i s o ne was verified (omega arith)
      ]
    ]

pub evident : EvidenceMeansOver
evident r w v generation long p e l s j f =
    let i = reached_kept r w long p in
    let iv = run_kept r l.0 w v i.0 i.1 l.1 in
    let g = run_grows r l.0 w v i.0 i.1 l.1 in
    let over = seen_over r w v generation i.0 i.1 iv.0 g e s ((iv.0.one s).joined j) f in
    (over, (g.goes s).no_join over j)

pub nobody_else : NobodyElseWrites
nobody_else r w long p s j n k g h = let o = (reached_kept r w long p).0.one s in o.owner (o.joined j) n k g h
