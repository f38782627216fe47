-- What the landing of a renewal or of a free keeps.
use Rattle.sl_ids.proofs.ClaimLandings.{alone_more, base_lower, based_more, landed, landings_more, one_more, own_or_low, placed_more, two_more, writer_is}
use Rattle.sl_ids.proofs.StateLaws.{before_landing, only_one}
use Rattle.sl_ids.specs.Invariant.{Invariant, IsOwnRecord}
use Rattle.sl_ids.specs.InvariantLaws.{OwnLandingKeeps}
use Rattle.sl_ids.specs.State.{Content, Free, Kind, Landing, Live, SessionId, State, shown}
use Rattle.sl_ids.specs.Steps.{ChangesOnly, Lands, Leaving, Renewal, Rises, Torn, Write, after_writing, spelled_by}
use Rattle.sl_ids.specs.Terms.{Terms}
use Rattle.sl_words.proofs.CaseLaws.{none_some, not_both, one_value, some_value}
use Rattle.sl_words.proofs.OrderLaws.{below_or_last, less_or_same}
use Rattle.std.proofs.Common.{Bool, None, Option, Some, ap, arith, false, inl, inr, refl, subst, sym, true, ℕ, ◌<◌, ◌∙◌, ◌≡◌, ◌≤◌}
use Rattle.std.proofs.lemmas.Bool.{cases_lt}

-- What stands in the sector has at most the generation of a session that is verified and not over.
own_most : (r : Terms) (w : State) → Invariant r w → (s : SessionId) → (w.session s).verified ≡ true → (w.session s).over ≡ false → (k : ℕ)
    → k < w.count → (x : Content) → shown w k ≡ Some x → x.generation ≤ (w.session s).generation
own_most r w i s p n k h x f =
    let o = i.one s in
    let placed = (o.verified p).1 in
    let generation = placed.generation in
    elim (cases_lt (w.session s).claim k) [
      | inl above ↦ let same = (o.wrote k h (o.owner p n k above h) x f).generation in omega arith
      | inr low ↦ elim (less_or_same k (w.session s).claim low) [
        | inl lt ↦ let m = i.landings.generations k (w.session s).claim lt placed.within x placed.content f placed.spelled in omega arith
        | inr e ↦
            let c = one_value x placed.content (shown w (w.session s).claim) (subst (λ (m : ℕ). shown w m ≡ Some x) e f) placed.spelled in
            let g : x.generation ≡ placed.content.generation = ap (λ (y : Content). y.generation) c in omega arith
      ]
    ]

-- And nothing spells what its next write spells.
own_new : (r : Terms) (w : State) → Invariant r w → (s : SessionId) → (w.session s).verified ≡ true → (w.session s).over ≡ false → (k : ℕ)
    → k < w.count → (x : Content) → shown w k ≡ Some x → x.host ≡ Some (w.session s).name → x.generation ≡ (w.session s).generation
    → (w.session s).seq < x.seq → ⊥
own_new r w i s p n k h x f name generation seq =
    let o = i.one s in
    let v = o.verified p in
    let mine : (w.landing k).writer ≡ Some s → ⊥ = λ m. let most = (o.wrote k h m x f).seq in omega arith in
    elim (own_or_low r w i s v.0 n k h x f name) [
      | inl m ↦ mine m
      | inr low ↦ elim v.3 [
        | inl d ↦ let lt = base_lower r w i s d.0 k low x f in omega arith
        | inr d ↦
            let a = d.1 in
            let b = d.2 in
            let e : (w.session s).claim ≡ k = omega arith in
            mine (subst (λ (m : ℕ). (w.landing m).writer ≡ Some s) e v.1.writer)
      ]
    ]

-- One write of s lands, over the landings after it.
own_kept : (r : Terms) (w v : State) (s : SessionId) (sp : Option Content) (seq : ℕ) (over : Bool) → Invariant r w
    → (w.session s).verified ≡ true → (w.session s).over ≡ false → (w.session s).seq ≤ seq
    → ((x : Content) → sp ≡ Some x → IsOwnRecord (w.session s).name (w.session s).generation seq (w.session s).verified over x × ((w.session s).seq < x.seq))
    → Lands w v s sp → ChangesOnly w v s (record (w.session s) { seq = seq; over = over }) → Invariant r v
own_kept r w v s sp seq over old p n rise says lands changes =
    let i = before_landing r w v.landing lands.old old in
    let u : State = record w { landing = v.landing } in
    let new = lands.new in
    let o = i.one s in
    let ver = o.verified p in
    let idle : (w.session s).pending ≡ true → ⊥ = λ q. not_both (w.session s).verified p (o.waits q).2 in
    let spelled : (k : ℕ) → k ≡ w.count → (x : Content) → (v.landing k).shown ≡ Some x → sp ≡ Some x = λ k e x f. ap (λ (y : Landing). y.shown) (sym new) ∙ subst (λ (m : ℕ). (v.landing m).shown ≡ Some x) e f in
    let moment : (k : ℕ) → k ≡ w.count → (v.landing k).moment ≡ w.now = λ k e. ap (λ (m : ℕ). (v.landing m).moment) e ∙ ap (λ (y : Landing). y.moment) new in
    landed r w v s sp (record (w.session s) { seq = seq; over = over }) i.terms lands changes
    (landings_more w.now w.count v.landing s sp i.landings new
    (λ k h x y f g. (let same = (says y g).0.generation in let most = own_most r u i s p n k h x f in omega arith))
    (λ k h x f g. (let t = says x g in own_new r u i s p n k h x f t.0.its t.0.generation t.1)))
    (record {
      waits = λ q. absurd (idle q);
      decided = λ q. (let e = o.decided q in (e.0, based_more r w.now w.count v.landing s sp (w.session s).base (w.session s).generation (w.session s).registered new e.1));
      unwritten = λ q. elim q [ inl b ↦ absurd (not_both (w.session s).begun ver.0 b) | inr b ↦ absurd (idle b) ];
      wrote = λ k h e x f. elim (below_or_last k w.count h) [
        | inl lt ↦
            let t = o.wrote k lt e x f in
            record { its = t.its; generation = t.generation; seq = (let m = t.seq in omega arith); live = t.live; free = λ g. absurd (not_both (w.session s).over (t.free g).1 n) }
        | inr same ↦ (says x (spelled k same x f)).0
      ];
      base = λ q. absurd (idle q);
      landed = λ q. (let d = o.landed q in (d.0, d.1, placed_more w.count v.landing s (w.session s).claim (w.session s).generation d.2, d.3));
      verified = λ q. (ver.0, placed_more w.count v.landing s (w.session s).claim (w.session s).generation ver.1, ver.2, ver.3);
      joined = o.joined;
      owner = λ a b k g h. elim (below_or_last k w.count h) [
        | inl lt ↦ o.owner p n k g lt
        | inr same ↦ subst (λ (m : ℕ). (v.landing m).writer ≡ Some s) (sym same) (ap (λ (y : Landing). y.writer) new)
      ];
      renewed = λ a b. (
          let old_ref = o.renewed p n in
          let before = old_ref.before in
          let some = i.terms.some in
          record {
            before = before;
            soon = λ k e. (let m = moment k (omega arith) in omega arith);
            live = λ k e x f g. (let m = moment k (omega arith) in omega arith);
          }
          );
    })
    (λ j ne. one_more r w.now w.count v.landing s sp j (w.session j) new ne
    (λ q. absurd ((i.two s j (λ e. ne (sym e))).sole p n q))
    (λ q m. elim (only_one r u i j s ne q p) [ inl a ↦ not_both (w.session j).over a m | inr a ↦ not_both (w.session s).over a n ])
    (i.one j))
    (λ j ne. (
    let t = i.two s j (λ e. ne (sym e)) in
    record {
      one_base = λ q. absurd (idle q);
      sole = λ a b q. t.sole p n q;
      behind = t.behind;
      solo = λ a b c. elim (t.solo a b c) [ inl d ↦ absurd (not_both (w.session s).over d n) | inr d ↦ inr d ];
      alone = λ a b c k h e. elim (below_or_last k w.count h) [
        | inl lt ↦ t.alone a b n k lt e
        | inr same ↦ absurd (ne (sym (writer_is (v.landing w.count) s j w.now sp new (subst (λ (m : ℕ). (v.landing m).writer ≡ Some j) same e))))
      ];
    }
    ))
    (λ j ne. (
    let t = i.two j s ne in
    record {
      one_base = λ a q. absurd (idle q);
      sole = λ a b q. idle q;
      behind = t.behind;
      solo = λ a b c. elim (t.solo a b c) [ inl d ↦ inl d | inr d ↦ absurd (not_both (w.session s).over d n) ];
      alone = λ a b c k h e. elim (below_or_last k w.count h) [
        | inl lt ↦ t.alone a b c k lt e
        | inr same ↦ absurd (alone_more r u i s ver.0 n j ne a b c)
      ];
    }
    ))
    (λ a b apart na nb. two_more r w.now w.count v.landing s sp a (w.session a) b (w.session b) new nb (i.two a b apart))

live_not_free : (k : Kind) → k ≡ Live → k ≡ Free → ⊥
live_not_free k a b = absurd cc

free_not_live : (k : Kind) → k ≡ Free → k ≡ Live → ⊥
free_not_live k a b = absurd cc

pub land_own_kept : OwnLandingKeeps
land_own_kept r w v s i d = go d.write d.rises d.lands d.changes
  where
    go : (x : Write) → Rises (w.session s).seq x → Lands w v s (spelled_by (w.session s).name (w.session s).generation x)
        → ChangesOnly w v s (after_writing x (w.session s)) → Invariant r v
    go Torn rises lands changes =
        own_kept r w v s None (w.session s).seq (w.session s).over i d.verified d.not_over (omega arith) (λ x e. absurd (none_some x e)) lands changes
    go (Renewal seq) rises lands changes =
        let content : Content = record { host = Some (w.session s).name; generation = (w.session s).generation; seq = seq; kind = Live } in
        own_kept r w v s (Some content) seq (w.session s).over i d.verified d.not_over (omega arith)
        (λ x e. (
        let c : x ≡ content = sym (some_value content x e) in
        let q : x.seq ≡ seq = ap (λ (y : Content). y.seq) c in (
          record {
            its = ap (λ (y : Content). y.host) c;
            generation = ap (λ (y : Content). y.generation) c;
            seq = omega arith;
            live = λ g. d.verified;
            free = λ g. absurd (live_not_free x.kind (ap (λ (y : Content). y.kind) c) g);
          },
          omega arith,
        )
        ))
        lands changes
    go (Leaving seq) rises lands changes =
        let content : Content = record { host = Some (w.session s).name; generation = (w.session s).generation; seq = seq; kind = Free } in
        own_kept r w v s (Some content) seq true i d.verified d.not_over (omega arith)
        (λ x e. (
        let c : x ≡ content = sym (some_value content x e) in
        let q : x.seq ≡ seq = ap (λ (y : Content). y.seq) c in (
          record {
            its = ap (λ (y : Content). y.host) c;
            generation = ap (λ (y : Content). y.generation) c;
            seq = omega arith;
            live = λ g. absurd (free_not_live x.kind (ap (λ (y : Content). y.kind) c) g);
            free = λ g. (d.verified, refl);
          },
          omega arith,
        )
        ))
        lands changes
