-- What a landing keeps: tools for any landing, and the landing of a claim.
use Rattle.sl_ids.proofs.StateLaws.{before_landing, each, each_two, same_session}
use Rattle.sl_ids.specs.Invariant.{HasBase, HasClaim, Invariant, LandingsInOrder, PairInvariant, SessionInvariant}
use Rattle.sl_ids.specs.InvariantLaws.{ClaimLandingKeeps}
use Rattle.sl_ids.specs.State.{Claimed, Content, Free, Kind, Landing, Live, Session, SessionId, State, shown}
use Rattle.sl_ids.specs.Steps.{ChangesOnly, LandClaim, Lands, TearClaim, after_claim, after_losing}
use Rattle.sl_ids.specs.Terms.{AreLongEnough, Terms}
use Rattle.sl_words.proofs.CaseLaws.{false_is_true, no_value, none_some, not_both, one_value, some_value}
use Rattle.sl_words.proofs.OrderLaws.{below_or_last, less_or_same}
use Rattle.std.proofs.Common.{Bool, None, Option, Some, ap, arith, false, inl, inr, refl, subst, sym, true, ℕ, ◌+◌, ◌<◌, ◌∙◌, ◌≡◌, ◌≤◌, ◌⊎◌}
use Rattle.std.proofs.lemmas.Bool.{cases_lt}

pub writer_is : (l : Landing) (a b : SessionId) (now : ℕ) (sp : Option Content) → l ≡ record { moment = now; writer = Some a; shown = sp }
    → l.writer ≡ Some b → a ≡ b
writer_is l a b now sp e p = one_value a b l.writer (ap (λ (y : Landing). y.writer) e) p

-- ---- one more landing

pub landings_more : (now count : ℕ) (land : ℕ → Landing) (s : SessionId) (sp : Option Content) → LandingsInOrder now count land
    → land count ≡ record { moment = now; writer = Some s; shown = sp }
    → ((k : ℕ) → k < count → (x y : Content) → (land k).shown ≡ Some x → sp ≡ Some y → x.generation ≤ y.generation)
    → ((k : ℕ) → k < count → (x : Content) → (land k).shown ≡ Some x → sp ≡ Some x → ⊥) → LandingsInOrder now (count + 1) land
landings_more now count land s sp m new above other =
    let moment : (land count).moment ≡ now = ap (λ (y : Landing). y.moment) new in
    let spelled : (x : Content) → (land count).shown ≡ Some x → sp ≡ Some x = λ x e. ap (λ (y : Landing). y.shown) (sym new) ∙ e in
    record {
      some = omega arith;
      past = λ k h. elim (below_or_last k count h) [
        | inl lt ↦ m.past k lt
        | inr e ↦ let f : (land k).moment ≡ (land count).moment = ap (λ (n : ℕ). (land n).moment) e in omega arith
      ];
      rising = λ j k h l. elim (below_or_last k count l) [
        | inl lt ↦ m.rising j k h lt
        | inr e ↦
            let f : (land k).moment ≡ (land count).moment = ap (λ (n : ℕ). (land n).moment) e in
            elim (less_or_same j count (omega arith)) [
              | inl lt ↦ let p = m.past j lt in omega arith
              | inr d ↦ let g : (land j).moment ≡ (land count).moment = ap (λ (n : ℕ). (land n).moment) d in omega arith
            ]
      ];
      generations = λ j k h l x y p q. elim (below_or_last k count l) [
        | inl lt ↦ m.generations j k h lt x y p q
        | inr e ↦ above j (omega arith) x y p (spelled y (subst (λ (n : ℕ). (land n).shown ≡ Some y) e q))
      ];
      distinct = λ j k h l x p q. elim (below_or_last k count l) [
        | inl lt ↦ m.distinct j k h lt x p q
        | inr e ↦ other j (omega arith) x p (spelled x (subst (λ (n : ℕ). (land n).shown ≡ Some x) e q))
      ];
      nobody = λ k h p. elim (below_or_last k count h) [
        | inl lt ↦ m.nobody k lt p
        | inr e ↦ absurd (no_value s (land count).writer (ap (λ (y : Landing). y.writer) new) (subst (λ (n : ℕ). (land n).writer ≡ None) e p))
      ];
    }

pub based_more : (r : Terms) (now count : ℕ) (land : ℕ → Landing) (s : SessionId) (sp : Option Content) (base generation registered : ℕ)
    → land count ≡ record { moment = now; writer = Some s; shown = sp } → HasBase r now count land base generation registered
    → HasBase r now (count + 1) land base generation registered
based_more r now count land s sp base generation registered new b =
    let moment : (land count).moment ≡ now = ap (λ (y : Landing). y.moment) new in
    record {
      within = let w = b.within in omega arith;
      content = b.content;
      spelled = b.spelled;
      next = b.next;
      early = b.early;
      later = λ k h l. elim (below_or_last k count l) [
        | inl lt ↦ b.later k h lt
        | inr e ↦ let f : (land k).moment ≡ (land count).moment = ap (λ (n : ℕ). (land n).moment) e in let p = b.early in omega arith
      ];
      watched = b.watched;
    }

pub placed_more : (count : ℕ) (land : ℕ → Landing) (n : SessionId) (claim own : ℕ) → HasClaim count land n claim own
    → HasClaim (count + 1) land n claim own
placed_more count land n claim own p = record { within = let w = p.within in omega arith; writer = p.writer; content = p.content; spelled = p.spelled; generation = p.generation }

-- A session other than the writer, which does not mind.
pub one_more : (r : Terms) (now count : ℕ) (land : ℕ → Landing) (s : SessionId) (sp : Option Content) (j : SessionId) (t : Session)
    → land count ≡ record { moment = now; writer = Some s; shown = sp } → (j ≡ s → ⊥)
    → (t.pending ≡ true → (x : Content) → sp ≡ Some x → (x.generation ≡ t.generation) × (x.kind ≡ Claimed))
    → (t.verified ≡ true → t.over ≡ false → ⊥) → SessionInvariant r now count land j t → SessionInvariant r now (count + 1) land j t
one_more r now count land s sp j t new ne claims idle o =
    let other : (k : ℕ) → k ≡ count → (land k).writer ≡ Some j → ⊥ = λ k e p. ne (sym (writer_is (land count) s j now sp new (subst (λ (n : ℕ). (land n).writer ≡ Some j) e p))) in
    record {
      waits = o.waits;
      decided = λ p. (let d = o.decided p in (d.0, based_more r now count land s sp t.base t.generation t.registered new d.1));
      unwritten = λ p k h e. elim (below_or_last k count h) [ inl lt ↦ o.unwritten p k lt e | inr same ↦ other k same e ];
      wrote = λ k h e x f. elim (below_or_last k count h) [ inl lt ↦ o.wrote k lt e x f | inr same ↦ absurd (other k same e) ];
      base = λ p k g h x f. elim (below_or_last k count h) [
        | inl lt ↦ o.base p k g lt x f
        | inr same ↦ claims p x (ap (λ (y : Landing). y.shown) (sym new) ∙ subst (λ (n : ℕ). (land n).shown ≡ Some x) same f)
      ];
      landed = λ p. (let d = o.landed p in (d.0, d.1, placed_more count land j t.claim t.generation d.2, d.3));
      verified = λ p. (let d = o.verified p in (d.0, placed_more count land j t.claim t.generation d.1, d.2, d.3));
      joined = o.joined;
      owner = λ p q. absurd (idle p q);
      renewed = λ p q. absurd (idle p q);
    }

-- Two sessions other than the writer.
pub two_more : (r : Terms) (now count : ℕ) (land : ℕ → Landing) (s : SessionId) (sp : Option Content) (i : SessionId) (t : Session) (j : SessionId) (u : Session)
    → land count ≡ record { moment = now; writer = Some s; shown = sp } → (j ≡ s → ⊥) → PairInvariant r count land i t j u
    → PairInvariant r (count + 1) land i t j u
two_more r now count land s sp i t j u new ne o = record {
  one_base = o.one_base;
  sole = o.sole;
  behind = o.behind;
  solo = o.solo;
  alone = λ a b c k h e. elim (below_or_last k count h) [
    | inl lt ↦ o.alone a b c k lt e
    | inr same ↦ absurd (ne (sym (writer_is (land count) s j now sp new (subst (λ (n : ℕ). (land n).writer ≡ Some j) same e))))
  ];
}

-- A step at which a write of s lands: what holds of the landings and the sessions after it.
pub landed : (r : Terms) (w v : State) (s : SessionId) (sp : Option Content) (next : Session) → AreLongEnough r → Lands w v s sp
    → ChangesOnly w v s next → LandingsInOrder w.now (w.count + 1) v.landing → SessionInvariant r w.now (w.count + 1) v.landing s next
    → ((j : SessionId) → (j ≡ s → ⊥) → SessionInvariant r w.now (w.count + 1) v.landing j (w.session j))
    → ((j : SessionId) → (j ≡ s → ⊥) → PairInvariant r (w.count + 1) v.landing s next j (w.session j))
    → ((j : SessionId) → (j ≡ s → ⊥) → PairInvariant r (w.count + 1) v.landing j (w.session j) s next)
    → ((i j : SessionId) → (i ≡ j → ⊥) → (i ≡ s → ⊥) → (j ≡ s → ⊥) → PairInvariant r (w.count + 1) v.landing i (w.session i) j (w.session j))
    → Invariant r v
landed r w v s sp next long lands changes landings one others first second rest =
    let now = changes.now in
    let count = lands.count in
    let all : (j : SessionId) → SessionInvariant r w.now (w.count + 1) v.landing j (v.session j) = each (λ n x. SessionInvariant r w.now (w.count + 1) v.landing n x) w v s next changes one others in
    let pairs : (i j : SessionId) → (i ≡ j → ⊥) → PairInvariant r (w.count + 1) v.landing i (v.session i) j (v.session j) = each_two (λ m x n y. PairInvariant r (w.count + 1) v.landing m x n y) w v s next changes first second rest in
    record {
      terms = long;
      landings = rw (now, count) landings;
      one = λ j. rw (now, count) (all j);
      two = λ i j ne. rw count (pairs i j ne);
    }

-- ---- a claim

-- Who has one base has one generation.
same_gen : (r : Terms) (w : State) → Invariant r w → (s j : SessionId) → (w.session s).decided ≡ true → (w.session j).decided ≡ true
    → (w.session s).base ≡ (w.session j).base → (w.session s).generation ≡ (w.session j).generation
same_gen r w i s j p q e =
    let a = ((i.one s).decided p).1 in
    let b = ((i.one j).decided q).1 in
    let c = one_value a.content b.content (shown w (w.session j).base) (subst (λ (k : ℕ). shown w k ≡ Some a.content) e a.spelled) b.spelled in
    let f : a.content.generation ≡ b.content.generation = ap (λ (x : Content). x.generation) c in
    let x = a.next in let y = b.next in omega arith

-- What stands at or below the base of s has a smaller generation.
pub base_lower : (r : Terms) (w : State) → Invariant r w → (s : SessionId) → (w.session s).decided ≡ true → (k : ℕ) → k ≤ (w.session s).base
    → (x : Content) → shown w k ≡ Some x → x.generation < (w.session s).generation
base_lower r w i s p k le x f =
    let a = ((i.one s).decided p).1 in
    let n = a.next in
    elim (less_or_same k (w.session s).base le) [
      | inl lt ↦ let m = i.landings.generations k (w.session s).base lt a.within x a.content f a.spelled in omega arith
      | inr e ↦
          let c = one_value x a.content (shown w (w.session s).base) (subst (λ (n : ℕ). shown w n ≡ Some x) e f) a.spelled in
          let g : x.generation ≡ a.content.generation = ap (λ (y : Content). y.generation) c in omega arith
    ]

-- A session that has begun and is not over: what else spells its daemon's name stands at or below its base, or is its own.
pub own_or_low : (r : Terms) (w : State) → Invariant r w → (s : SessionId) → (w.session s).begun ≡ true → (w.session s).over ≡ false
    → (k : ℕ) → k < w.count → (x : Content) → shown w k ≡ Some x → x.host ≡ Some (w.session s).name
    → ((w.landing k).writer ≡ Some s) ⊎ (k ≤ (w.session s).base)
own_or_low r w i s b n k h x f e = go (w.landing k).writer refl
  where
    go : (o : Option SessionId) → (w.landing k).writer ≡ o → ((w.landing k).writer ≡ Some s) ⊎ (k ≤ (w.session s).base)
    go None p = inr (let z = (i.landings.nobody k h p).0 in omega arith)
    go (Some j) p = elim (same_session j s) [
      | inl same ↦ inl (p ∙ ap (λ (m : SessionId). Some m) same)
      | inr ne ↦
          let t = (i.one j).wrote k h p x f in
          inr ((i.two s j (λ q. ne (sym q))).alone (one_value (w.session s).name (w.session j).name x.host e t.its) b n k h p)
    ]

-- The landing of a claim of s, whole or torn, over the landings after it.
claim_landings : (r : Terms) (w : State) (s : SessionId) (sp : Option Content) → Invariant r w → (w.session s).pending ≡ true
    → w.landing w.count ≡ record { moment = w.now; writer = Some s; shown = sp }
    → ((x : Content) → sp ≡ Some x → (x.generation ≡ (w.session s).generation) × (x.host ≡ Some (w.session s).name))
    → LandingsInOrder w.now (w.count + 1) w.landing
claim_landings r w s sp i p new says =
    let o = i.one s in
    let flags = o.waits p in
    landings_more w.now w.count w.landing s sp i.landings new
    (λ k h x y f g. (
    let own = (says y g).0 in
    elim (cases_lt (w.session s).base k) [
      | inl above ↦ let same = (o.base p k above h x f).0 in omega arith
      | inr low ↦ let lt = base_lower r w i s flags.0 k low x f in omega arith
    ]
    ))
    (λ k h x f g. (
    let own = says x g in
    elim (own_or_low r w i s (o.decided flags.0).0 flags.3 k h x f own.1) [
      | inl mine ↦ o.unwritten (inr p) k h mine
      | inr low ↦ let lt = base_lower r w i s flags.0 k low x f in let same = own.0 in omega arith
    ]
    ))

claim_others : (r : Terms) (w : State) (s : SessionId) (sp : Option Content) → Invariant r w → (w.session s).pending ≡ true
    → w.landing w.count ≡ record { moment = w.now; writer = Some s; shown = sp }
    → ((x : Content) → sp ≡ Some x → (x.generation ≡ (w.session s).generation) × (x.kind ≡ Claimed)) → (j : SessionId) → (j ≡ s → ⊥)
    → SessionInvariant r w.now (w.count + 1) w.landing j (w.session j)
claim_others r w s sp i p new says j ne =
    one_more r w.now w.count w.landing s sp j (w.session j) new ne
    (λ q x f. (
    let own = says x f in
    let same = same_gen r w i s j ((i.one s).waits p).0 ((i.one j).waits q).0 ((i.two s j (λ e. ne (sym e))).one_base p q) in
    (own.0 ∙ same, own.1)
    ))
    (λ q n. (i.two j s ne).sole q n p)
    (i.one j)

-- A writer that is not over is alone of its daemon.
pub alone_more : (r : Terms) (w : State) → Invariant r w → (s : SessionId) → (w.session s).begun ≡ true → (w.session s).over ≡ false
    → (j : SessionId) → (j ≡ s → ⊥) → (w.session j).name ≡ (w.session s).name → (w.session j).begun ≡ true → (w.session j).over ≡ false → ⊥
alone_more r w i s b n j ne e bj nj = elim ((i.two j s ne).solo e bj b) [ inl a ↦ not_both (w.session j).over a nj | inr a ↦ not_both (w.session s).over a n ]

claim_first : (r : Terms) (w : State) (s : SessionId) (sp : Option Content) (landed : Bool) (claim seq : ℕ) → Invariant r w
    → (w.session s).pending ≡ true → w.landing w.count ≡ record { moment = w.now; writer = Some s; shown = sp } → (j : SessionId)
    → (j ≡ s → ⊥)
    → PairInvariant r (w.count + 1) w.landing s (record (w.session s) { pending = false; landed = landed; claim = claim; seq = seq }) j (w.session j)
claim_first r w s sp landed claim seq i p new j ne =
    let t = i.two s j (λ e. ne (sym e)) in
    let flags = (i.one s).waits p in
    record {
      one_base = λ q. absurd (false_is_true q);
      sole = λ q. absurd (not_both (w.session s).verified q flags.2);
      behind = λ q. absurd (not_both (w.session s).verified q flags.2);
      solo = t.solo;
      alone = λ a b c k h e. elim (below_or_last k w.count h) [
        | inl lt ↦ t.alone a b c k lt e
        | inr same ↦ absurd (ne (sym (writer_is (w.landing w.count) s j w.now sp new (subst (λ (n : ℕ). (w.landing n).writer ≡ Some j) same e))))
      ];
    }

claim_second : (r : Terms) (w : State) (s : SessionId) (sp : Option Content) (landed : Bool) (claim seq : ℕ) → Invariant r w
    → (w.session s).pending ≡ true → w.landing w.count ≡ record { moment = w.now; writer = Some s; shown = sp } → (j : SessionId)
    → (j ≡ s → ⊥)
    → PairInvariant r (w.count + 1) w.landing j (w.session j) s (record (w.session s) { pending = false; landed = landed; claim = claim; seq = seq })
claim_second r w s sp landed claim seq i p new j ne =
    let t = i.two j s ne in
    let flags = (i.one s).waits p in
    record {
      one_base = λ a q. absurd (false_is_true q);
      sole = λ a b q. false_is_true q;
      behind = λ a b lt. absurd ((t.behind a flags.0 lt).0 p);
      solo = t.solo;
      alone = λ a b c k h e. elim (below_or_last k w.count h) [
        | inl lt ↦ t.alone a b c k lt e
        | inr same ↦ absurd (alone_more r w i s ((i.one s).decided flags.0).0 flags.3 j ne a b c)
      ];
    }

pub tear_claim_kept : (r : Terms) (w v : State) (s : SessionId) → Invariant r w → TearClaim w v s → Invariant r v
tear_claim_kept r w v s old d =
    let lands = d.lands in
    let i = before_landing r w v.landing lands.old old in
    let u : State = record w { landing = v.landing } in
    let new = lands.new in
    let p = d.pending in
    let o = i.one s in
    let flags = o.waits p in
    landed r w v s None (after_losing (w.session s)) i.terms lands d.changes
    (claim_landings r u s None i p new (λ x e. absurd (none_some x e)))
    (record {
      waits = λ q. absurd (false_is_true q);
      decided = λ q. (let e = o.decided q in (e.0, based_more r w.now w.count v.landing s None (w.session s).base (w.session s).generation (w.session s).registered new e.1));
      unwritten = λ q. elim q [ inl b ↦ absurd (not_both (w.session s).begun (o.decided flags.0).0 b) | inr b ↦ absurd (false_is_true b) ];
      wrote = λ k h e x f. elim (below_or_last k w.count h) [
        | inl lt ↦ absurd (o.unwritten (inr p) k lt e)
        | inr same ↦ absurd (none_some x (ap (λ (y : Landing). y.shown) (sym new) ∙ subst (λ (n : ℕ). (v.landing n).shown ≡ Some x) same f))
      ];
      base = λ q. absurd (false_is_true q);
      landed = λ q. absurd (not_both (w.session s).landed q flags.1);
      verified = λ q. absurd (not_both (w.session s).verified q flags.2);
      joined = o.joined;
      owner = λ q. absurd (not_both (w.session s).verified q flags.2);
      renewed = λ q. absurd (not_both (w.session s).verified q flags.2);
    })
    (claim_others r u s None i p new (λ x e. absurd (none_some x e)))
    (claim_first r u s None (w.session s).landed (w.session s).claim (w.session s).seq i p new)
    (claim_second r u s None (w.session s).landed (w.session s).claim (w.session s).seq i p new)
    (λ a b apart na nb. two_more r w.now w.count v.landing s None a (w.session a) b (w.session b) new nb (i.two a b apart))

pub land_claim_kept : (r : Terms) (w v : State) (s : SessionId) → Invariant r w → LandClaim w v s → Invariant r v
land_claim_kept r w v s old d =
    let lands = d.lands in
    let i = before_landing r w v.landing lands.old old in
    let u : State = record w { landing = v.landing } in
    let new = lands.new in
    let p = d.pending in
    let o = i.one s in
    let flags = o.waits p in
    let content : Content = record { host = Some (w.session s).name; generation = (w.session s).generation; seq = d.seq; kind = Claimed } in
    let spelled : (v.landing w.count).shown ≡ Some content = ap (λ (y : Landing). y.shown) new in
    let is : (x : Content) → Some content ≡ Some x → content ≡ x = λ x e. some_value content x e in
    landed r w v s (Some content) (after_claim w.count d.seq (w.session s)) i.terms lands d.changes
    (claim_landings r u s (Some content) i p new (λ x e. (ap (λ (y : Content). y.generation) (sym (is x e)), ap (λ (y : Content). y.host) (sym (is x e)))))
    (record {
      waits = λ q. absurd (false_is_true q);
      decided = λ q. (let e = o.decided q in (e.0, based_more r w.now w.count v.landing s (Some content) (w.session s).base (w.session s).generation (w.session s).registered new e.1));
      unwritten = λ q. elim q [ inl b ↦ absurd (not_both (w.session s).begun (o.decided flags.0).0 b) | inr b ↦ absurd (false_is_true b) ];
      wrote = λ k h e x f. elim (below_or_last k w.count h) [
        | inl lt ↦ absurd (o.unwritten (inr p) k lt e)
        | inr same ↦
            let c = one_value x content (v.landing w.count).shown (subst (λ (n : ℕ). (v.landing n).shown ≡ Some x) same f) spelled in
            let kind : x.kind ≡ Claimed = ap (λ (y : Content). y.kind) c in
            let seq : x.seq ≡ d.seq = ap (λ (y : Content). y.seq) c in
            record {
              its = ap (λ (y : Content). y.host) c;
              generation = ap (λ (y : Content). y.generation) c;
              seq = omega arith;
              live = λ g. absurd (claim_not_live x.kind kind g);
              free = λ g. absurd (claim_not_free x.kind kind g);
            }
      ];
      base = λ q. absurd (false_is_true q);
      landed = λ q. (
        flags.0,
        (o.decided flags.0).1.within,
        record { within = omega arith; writer = ap (λ (y : Landing). y.writer) new; content = content; spelled = spelled; generation = refl },
        λ x f. ap (λ (y : Content). y.kind) (one_value x content (v.landing w.count).shown f spelled),
      );
      verified = λ q. absurd (not_both (w.session s).verified q flags.2);
      joined = o.joined;
      owner = λ q. absurd (not_both (w.session s).verified q flags.2);
      renewed = λ q. absurd (not_both (w.session s).verified q flags.2);
    })
    (claim_others r u s (Some content) i p new (λ x e. (ap (λ (y : Content). y.generation) (sym (is x e)), ap (λ (y : Content). y.kind) (sym (is x e)))))
    (claim_first r u s (Some content) true w.count d.seq i p new)
    (claim_second r u s (Some content) true w.count d.seq i p new)
    (λ a b apart na nb. two_more r w.now w.count v.landing s (Some content) a (w.session a) b (w.session b) new nb (i.two a b apart))
  where
    claim_not_live : (k : Kind) → k ≡ Claimed → k ≡ Live → ⊥
    claim_not_live k a b = absurd cc

    claim_not_free : (k : Kind) → k ≡ Claimed → k ≡ Free → ⊥
    claim_not_free k a b = absurd cc

pub claim_landing_kept : ClaimLandingKeeps
claim_landing_kept = record { whole = land_claim_kept; torn = tear_claim_kept }
