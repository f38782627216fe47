-- A torn leader is harmless.
use Rattle.sl_ballot_law.proofs.AgreementLaws.{agreement}
use Rattle.sl_ballot_law.proofs.BlockLaws.{grows_shown}
use Rattle.sl_ballot_law.specs.Ballots.{Begun, Never_led}
use Rattle.sl_ballot_law.specs.Disk.{Wrote}
use Rattle.sl_ballot_law.specs.History.{Owner}
use Rattle.sl_ballot_law.specs.Pairs.Leaders.{BallotsEndAgain, LeadersAreBelow, ShownIsReason}
use Rattle.std.proofs.Common.{ap, arith, inl, inr, refl, ℕ, ◌≡◌}

pub reasons : ShownIsReason
reasons = record {
  shown = λ h i s r k e n is whole late at some. elim (i.register.submitted r k is whole) [
    | inl z ↦ absurd (let none = i.register.zeros.0 in let same : (h.block (h.shown r k)).lver ≡ (h.block 0).lver = ap (λ (x : ℕ). (h.block x).lver) z in omega (arith, none, same, at, some))
    | inr w ↦ Begun (h.shown r k) w.is (let early = i.register.earlier r k is whole in omega (arith, early, late)) at
  ];
  first = λ h s e. Never_led refl;
}

pub below : LeadersAreBelow
below h i k l r leads is whole late =
    let s = (h.leader l).owner in
    let b = k.leaders l leads in
    let wrote : Wrote h s.id b.write = record { is = b.writes; host = ap (λ (o : Owner). o.id) b.writer } in
    let one = b.after in
    let two = i.register.forward b.read b.reads in
    let three = b.answer in
    let grown = grows_shown h i s.id b.write b.ack r wrote b.acked is whole (omega (arith, one, two, three, late)) in
    let up = grown.lver in
    let at = b.lver in
    omega (arith, up, at)

pub again : BallotsEndAgain
again h i k l leads s v t b = agreement h i (h.leader l).lver s (h.leader l).owner v (h.leader l).owner t l b (k.leaders l leads)
