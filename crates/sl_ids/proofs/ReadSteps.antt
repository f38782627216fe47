-- The two reads that decide: the deciding read, and the verify read.
use Rattle.sl_ids.proofs.QuietSteps.{changed_only}
use Rattle.sl_ids.proofs.StateLaws.{one_place}
use Rattle.sl_ids.specs.Invariant.{Invariant}
use Rattle.sl_ids.specs.InvariantLaws.{DecidingKeeps, VerifyingKeeps}
use Rattle.sl_ids.specs.Runs.{IsBounded}
use Rattle.sl_ids.specs.State.{Claimed, Content, Free, Kind, Live, Session, SessionId, State, moment, shown}
use Rattle.sl_ids.specs.Steps.{Decide, IsWatched, Verify, Was_free, Was_unchanged, after_deciding, after_verifying}
use Rattle.sl_ids.specs.Terms.{Terms}
use Rattle.sl_words.proofs.CaseLaws.{is_false, not_both, one_value}
use Rattle.sl_words.proofs.OrderLaws.{less_or_same}
use Rattle.std.proofs.Common.{Some, ap, arith, false, inl, inr, refl, subst, sym, true, ℕ, ◌+◌, ◌<◌, ◌∙◌, ◌≡◌, ◌⊎◌}

claim_free : (k : Kind) → k ≡ Claimed → k ≡ Free → ⊥
claim_free k a b = absurd cc

claim_live : (k : Kind) → k ≡ Claimed → k ≡ Live → ⊥
claim_live k a b = absurd cc

-- ---- the deciding read

-- What is not free has stood there for so long.
watched_long : (r : Terms) (w v : State) (s : SessionId) → Invariant r w → (d : Decide r w v s)
    → (d.content.kind ≡ Free) ⊎ (moment w d.last + (r.hold + r.gone) < w.now + 2)
watched_long r w v s i d = go d.watched
  where
    go : IsWatched r w d.content → (d.content.kind ≡ Free) ⊎ (moment w d.last + (r.hold + r.gone) < w.now + 2)
    go (Was_free e) = inl e
    go (Was_unchanged first sampled h q m l) =
        let last = d.is_last in
        let e = one_place r w i first d.last d.content h (omega arith) q d.spelled in
        let f : moment w first ≡ moment w d.last = ap (λ (k : ℕ). moment w k) e in
        let long = i.terms.watch in
        inr (omega arith)

-- Each claim that may still land has the newest landing as its base.
base_is_last : (r : Terms) (w v : State) (s : SessionId) → Invariant r w → IsBounded r w → (d : Decide r w v s) → (j : SessionId)
    → (w.session j).pending ≡ true → (w.session j).base ≡ d.last
base_is_last r w v s i b d j p =
    let last = d.is_last in
    let o = i.one j in
    let based = (o.decided (o.waits p).0).1 in
    let within = based.within in
    elim (less_or_same (w.session j).base d.last (omega arith)) [
      | inr e ↦ e
      | inl lt ↦ elim (watched_long r w v s i d) [
        | inl free ↦ absurd (claim_free d.content.kind (o.base p d.last lt (omega arith) d.content d.spelled).1 free)
        | inr long ↦ absurd (let x = b.pending j p in let y = based.later d.last lt (omega arith) in omega arith)
      ]
    ]

-- No verified session is left that is not over.
none_acts : (r : Terms) (w v : State) (s : SessionId) → Invariant r w → IsBounded r w → (d : Decide r w v s) → (j : SessionId)
    → (w.session j).verified ≡ true → (w.session j).over ≡ false → ⊥
none_acts r w v s i b d j p q =
    let last = d.is_last in
    let o = i.one j in
    let placed = (o.verified p).1 in
    let within = placed.within in
    let writer : (w.landing d.last).writer ≡ Some j = elim (less_or_same (w.session j).claim d.last (omega arith)) [
      | inl lt ↦ o.owner p q d.last lt (omega arith)
      | inr e ↦ subst (λ (k : ℕ). (w.landing k).writer ≡ Some j) e placed.writer
    ] in
    elim (watched_long r w v s i d) [
      | inl free ↦ not_both (w.session j).over ((o.wrote d.last (omega arith) writer d.content d.spelled).free free).1 q
      | inr long ↦ let x = b.acting j p q in let y = (o.renewed p q).soon d.last last in omega arith
    ]

pub decide_kept : DecidingKeeps
decide_kept r w v s i b d =
    let last = d.is_last in
    let o = i.one s in
    let undecided : (w.session s).decided ≡ true → ⊥ = λ p. not_both (w.session s).begun (o.decided p).0 d.first in
    let unlanded : (w.session s).landed ≡ true → ⊥ = λ p. undecided (o.landed p).0 in
    let unverified : (w.session s).verified ≡ true → ⊥ = λ p. not_both (w.session s).begun (o.verified p).0 d.first in
    changed_only r w v s (after_deciding d.last d.name (d.content.generation + 1) d.registered (w.session s)) i d.same d.changes
    (record {
      waits = λ p. (refl, is_false (w.session s).landed unlanded, is_false (w.session s).verified unverified, d.not_over);
      decided = λ p. (
        refl,
        record {
          within = omega arith;
          content = d.content;
          spelled = d.spelled;
          next = refl;
          early = d.before;
          later = λ k h l. absurd (omega arith);
          watched = watched_long r w v s i d;
        },
      );
      unwritten = λ p k h e. o.unwritten (inl d.first) k h e;
      wrote = λ k h e x f. absurd (o.unwritten (inl d.first) k h e);
      base = λ p k g h x f. absurd (omega arith);
      landed = λ p. absurd (unlanded p);
      verified = λ p. absurd (unverified p);
      joined = o.joined;
      owner = λ p. absurd (unverified p);
      renewed = λ p. absurd (unverified p);
    })
    (λ j ne. record {
      one_base = λ p q. sym (base_is_last r w v s i b d j q);
      sole = λ p. absurd (unverified p);
      behind = λ p. absurd (unverified p);
      solo = λ e p q. inr (d.alone j ne (sym e) q);
      alone = λ e p q k h f. omega arith;
    })
    (λ j ne. record {
      one_base = λ p q. base_is_last r w v s i b d j p;
      sole = λ p q l. none_acts r w v s i b d j p q;
      behind = λ p q lt. absurd (let within = ((i.one j).verified p).1.within in omega arith);
      solo = λ e p q. inl (d.alone j ne e p);
      alone = λ e p q k h f. absurd (o.unwritten (inl d.first) k h f);
    })

-- ---- the verify read

-- The newest landing is the claim itself.
claim_is_last : (r : Terms) (w v : State) (s : SessionId) → Invariant r w → (d : Verify r w v s) → (w.session s).claim + 1 ≡ w.count
claim_is_last r w v s i d =
    let last = d.is_last in
    let placed = ((i.one s).landed d.landed).2 in
    let e = one_place r w i (w.session s).claim d.last d.content placed.within (omega arith) d.own d.spelled in
    omega arith

-- No claim of another may land any more.
none_pending : (r : Terms) (w v : State) (s : SessionId) → Invariant r w → IsBounded r w → (d : Verify r w v s)
    → w.now < d.registered + r.gone → (j : SessionId) → (w.session j).pending ≡ true → ⊥
none_pending r w v s i b d acts j p =
    let last = claim_is_last r w v s i d in
    let mine = (i.one s).landed d.landed in
    let o = i.one j in
    let based = (o.decided (o.waits p).0).1 in
    let within = based.within in
    let waited = d.waited in
    let long = i.terms.wait in
    let soon = d.soon in
    let x = b.pending j p in
    elim (less_or_same (w.session j).base (w.session s).claim (omega arith)) [
      | inl lt ↦ let y = based.later (w.session s).claim lt (omega arith) in omega arith
      | inr e ↦ elim based.watched [
        | inl free ↦ claim_free based.content.kind (mine.3 based.content (subst (λ (k : ℕ). shown w k ≡ Some based.content) e based.spelled)) free
        | inr long ↦
            let f : moment w (w.session j).base ≡ moment w (w.session s).claim = ap (λ (k : ℕ). moment w k) e in omega arith
      ]
    ]

pub verify_kept : VerifyingKeeps
verify_kept r w v s i b later d =
    let last = claim_is_last r w v s i d in
    let o = i.one s in
    let mine = o.landed d.landed in
    let self = d.changes.self in
    let acts : w.now < d.registered + r.gone =
    (
    let over : (v.session s).over ≡ false = ap (λ (x : Session). x.over) self ∙ d.not_over in
    let renewed : (v.session s).renewed ≡ d.registered = ap (λ (x : Session). x.renewed) self in
    let now = d.changes.now in
    let x = later.acting s (ap (λ (x : Session). x.verified) self) over in omega arith
    ) in
    let idle : (w.session s).pending ≡ true → ⊥ = λ p. not_both (w.session s).landed d.landed (o.waits p).1 in
    let kind : (k : ℕ) → k + 1 ≡ w.count → (x : Content) → shown w k ≡ Some x → x.kind ≡ Live → ⊥ = λ k e x f g.
    let same : k ≡ (w.session s).claim = omega arith in claim_live x.kind (mine.3 x (subst (λ (n : ℕ). shown w n ≡ Some x) same f)) g in
    changed_only r w v s (after_verifying d.registered (w.session s)) i d.same d.changes
    (record {
      waits = λ p. absurd (idle p);
      decided = o.decided;
      unwritten = o.unwritten;
      wrote = λ k h e x f. (let t = o.wrote k h e x f in record { its = t.its; generation = t.generation; seq = t.seq; live = λ g. refl; free = λ g. (refl, (t.free g).1) });
      base = o.base;
      landed = o.landed;
      verified = λ p. ((o.decided mine.0).0, mine.2, (let n = (o.decided mine.0).1.next in omega arith), inl (mine.0, d.landed));
      joined = λ p. refl;
      owner = λ p q k g h. absurd (omega arith);
      renewed = λ p q. record {
        before = d.before;
        soon = λ k e. (
            let same : k ≡ (w.session s).claim = omega arith in
            let m : moment w k ≡ moment w (w.session s).claim = ap (λ (n : ℕ). moment w n) same in
            let soon = d.soon in omega arith
            );
        live = λ k e x f g. absurd (kind k e x f g);
      };
    })
    (λ j ne. (
    let t = i.two s j (λ e. ne (sym e)) in
    record {
      one_base = t.one_base;
      sole = λ p q l. none_pending r w v s i b d acts j l;
      behind = λ p q lt. (
        λ l. none_pending r w v s i b d acts j l,
        λ l. (
            let placed = ((i.one j).landed l).2 in
            let within = placed.within in
            elim (less_or_same (w.session j).claim (w.session s).claim (omega arith)) [
              | inl under ↦ under
              | inr e ↦ absurd (ne (one_value j s (w.landing (w.session s).claim).writer (subst (λ (k : ℕ). (w.landing k).writer ≡ Some j) e placed.writer) mine.2.writer))
            ]
            ),
      );
      solo = t.solo;
      alone = t.alone;
    }
    ))
    (λ j ne. (let t = i.two j s ne in record { one_base = t.one_base; sole = t.sole; behind = t.behind; solo = t.solo; alone = t.alone }))
