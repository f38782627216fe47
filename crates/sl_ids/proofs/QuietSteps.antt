-- The steps at which nothing lands and nothing is read that decides: a claim is lost, a renewal is answered, a session ends, time passes.
use Rattle.sl_ids.proofs.StateLaws.{each, each_two, nothing_landed}
use Rattle.sl_ids.specs.Invariant.{Invariant, PairInvariant, SessionInvariant}
use Rattle.sl_ids.specs.InvariantLaws.{QuietKeeps}
use Rattle.sl_ids.specs.State.{Session, SessionId, State}
use Rattle.sl_ids.specs.Steps.{ChangesOnly, End, Lose, Pass, Renew, SameLandings, after_end, after_losing, after_renewal}
use Rattle.sl_ids.specs.Terms.{Terms}
use Rattle.sl_words.proofs.CaseLaws.{false_is_true, true_is_false}
use Rattle.std.proofs.Common.{arith, inl, inr, refl, sym, ◌≡◌}

-- One session changes, and nothing lands.
pub changed_only : (r : Terms) (w v : State) (s : SessionId) (next : Session) → Invariant r w → SameLandings w v → ChangesOnly w v s next
    → SessionInvariant r w.now w.count w.landing s next
    → ((j : SessionId) → (j ≡ s → ⊥) → PairInvariant r w.count w.landing s next j (w.session j))
    → ((j : SessionId) → (j ≡ s → ⊥) → PairInvariant r w.count w.landing j (w.session j) s next) → Invariant r v
changed_only r w v s next i same t one first second =
    nothing_landed r w v i.terms (let e = t.now in omega arith) same i.landings
    (each (λ n x. SessionInvariant r w.now w.count w.landing n x) w v s next t one (λ j ne. i.one j))
    (each_two (λ m x n y. PairInvariant r w.count w.landing m x n y) w v s next t first second (λ j k apart a b. i.two j k apart))

pub pass_kept : (r : Terms) (w v : State) → Invariant r w → Pass w v → Invariant r v
pass_kept r w v i p =
    nothing_landed r w v i.terms p.later p.same i.landings (λ s. rw (p.sessions s) (i.one s)) (λ s t ne. rw (p.sessions s, p.sessions t) (i.two s t ne))

pub lose_kept : (r : Terms) (w v : State) (s : SessionId) → Invariant r w → Lose w v s → Invariant r v
lose_kept r w v s i p =
    let o = i.one s in
    changed_only r w v s (after_losing (w.session s)) i p.same p.changes
    (record {
      waits = λ q. absurd (false_is_true q);
      decided = o.decided;
      unwritten = λ q. elim q [ inl b ↦ o.unwritten (inl b) | inr b ↦ absurd (false_is_true b) ];
      wrote = o.wrote;
      base = λ q. absurd (false_is_true q);
      landed = o.landed;
      verified = o.verified;
      joined = o.joined;
      owner = o.owner;
      renewed = o.renewed;
    })
    (λ j ne. (
    let t = i.two s j (λ e. ne (sym e)) in
    record { one_base = λ q. absurd (false_is_true q); sole = t.sole; behind = t.behind; solo = t.solo; alone = t.alone }
    ))
    (λ j ne. (
    let t = i.two j s ne in
    record {
      one_base = λ q b. absurd (false_is_true b);
      sole = λ a b c. false_is_true c;
      behind = λ a b c. (λ e. false_is_true e, (t.behind a b c).1);
      solo = t.solo;
      alone = t.alone;
    }
    ))

pub end_kept : (r : Terms) (w v : State) (s : SessionId) → Invariant r w → End w v s → Invariant r v
end_kept r w v s i p =
    let o = i.one s in
    changed_only r w v s (after_end (w.session s)) i p.same p.changes
    (record {
      waits = λ q. absurd (false_is_true q);
      decided = o.decided;
      unwritten = λ q. elim q [ inl b ↦ o.unwritten (inl b) | inr b ↦ absurd (false_is_true b) ];
      wrote = λ k h e x f. (let t = o.wrote k h e x f in record { its = t.its; generation = t.generation; seq = t.seq; live = t.live; free = λ g. ((t.free g).0, refl) });
      base = λ q. absurd (false_is_true q);
      landed = o.landed;
      verified = o.verified;
      joined = o.joined;
      owner = λ a b. absurd (true_is_false b);
      renewed = λ a b. absurd (true_is_false b);
    })
    (λ j ne. (
    let t = i.two s j (λ e. ne (sym e)) in
    record {
      one_base = λ q. absurd (false_is_true q);
      sole = λ a b. absurd (true_is_false b);
      behind = t.behind;
      solo = λ a b c. inl refl;
      alone = λ a b c. absurd (true_is_false c);
    }
    ))
    (λ j ne. (
    let t = i.two j s ne in
    record {
      one_base = λ q b. absurd (false_is_true b);
      sole = λ a b c. false_is_true c;
      behind = λ a b c. (λ e. false_is_true e, (t.behind a b c).1);
      solo = λ a b c. inr refl;
      alone = t.alone;
    }
    ))

pub renew_kept : (r : Terms) (w v : State) (s : SessionId) → Invariant r w → Renew w v s → Invariant r v
renew_kept r w v s i p =
    let o = i.one s in
    let some = i.terms.some in
    let low = p.before in
    changed_only r w v s (after_renewal p.submitted (w.session s)) i p.same p.changes
    (record {
      waits = o.waits;
      decided = o.decided;
      unwritten = o.unwritten;
      wrote = o.wrote;
      base = o.base;
      landed = o.landed;
      verified = o.verified;
      joined = λ q. p.verified;
      owner = o.owner;
      renewed = λ a b. record {
        before = let m = i.landings.past p.index p.within in omega arith;
        soon = λ k e. (let m = i.landings.rising p.index k (let h = p.within in omega arith) (omega arith) in omega arith);
        live = λ k e x f g. (let m = i.landings.rising p.index k (let h = p.within in omega arith) (omega arith) in omega arith);
      };
    })
    (λ j ne. (let t = i.two s j (λ e. ne (sym e)) in record { one_base = t.one_base; sole = t.sole; behind = t.behind; solo = t.solo; alone = t.alone }))
    (λ j ne. (let t = i.two j s ne in record { one_base = t.one_base; sole = t.sole; behind = t.behind; solo = t.solo; alone = t.alone }))

pub quiet_kept : QuietKeeps
quiet_kept = record { pass = pass_kept; lose = lose_kept; renew = renew_kept; end = end_kept }
