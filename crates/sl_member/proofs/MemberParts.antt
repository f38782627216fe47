-- The parts of a member stay those of its run and session.
use Rattle.sl_area.specs.AreaSizes.{Sizes, layout_of}
use Rattle.sl_delta.specs.OwnSector.{OwnState, after_answer, lease_of}
use Rattle.sl_member.specs.Members.{IsMember}
use Rattle.sl_trace.specs.DeltaDecisions.{DeltaLease}
use Rattle.sl_trace.specs.declared.session.Session.{Session}
use Rattle.sl_time.specs.Times.{TimingNumbers}
use Rattle.sl_trace.specs.declared.effects.Purpose.{Purpose}
use Rattle.sl_trace.specs.declared.input.Answer.{Answer}
use Rattle.sl_watch.specs.Watches.{Watched}
use Rattle.std.proofs.Common.{ap, subst, sym, ◌∙◌}
use Rattle.std.specs.Prelude.{Bool, List, ℕ, ◌≡◌}

-- What is kept of the own sector, of this run and session.
abbrev pub own_at : OwnState → TimingNumbers → Sizes → List ℕ → List ℕ → ℕ → OwnState
own_at o t z n l i =
    record {
      timing = t;
      sizes = z;
      host = n;
      lockspace = l;
      id = i;
      joining = o.joining;
      generation = o.generation;
      seq = o.seq;
      renewed = o.renewed;
      busy = o.busy;
      freed = o.freed;
    }

pub own_is : {tm : TimingNumbers} {z : Sizes} {host : List ℕ} {who : Session} {joined : Bool} {o : OwnState} {w : Watched} → IsMember tm z host who joined o w
    → o ≡ own_at o tm z host who.lockspace who.id
own_is {tm} {z} {host} {who} {joined} {o} {w} i =
    ap (λ t. own_at o t o.sizes o.host o.lockspace o.id) i.timing ∙ ap (λ s. own_at o tm s o.host o.lockspace o.id) i.sizes
    ∙ ap (λ n. own_at o tm z n o.lockspace o.id) i.named ∙ ap (λ l. own_at o tm z host l o.id) i.lockspace ∙ ap (λ k. own_at o tm z host who.lockspace k) i.id

-- Its delta lease.
abbrev pub lease_at : OwnState → TimingNumbers → Sizes → List ℕ → List ℕ → ℕ → DeltaLease
lease_at o t z n l i = record { timing = t; layout = layout_of z; host = n; lockspace = l; id = i }

pub lease_is : {tm : TimingNumbers} {z : Sizes} {host : List ℕ} {who : Session} {joined : Bool} {o : OwnState} {w : Watched} → IsMember tm z host who joined o w
    → lease_of o ≡ lease_at o tm z host who.lockspace who.id
lease_is {tm} {z} {host} {who} {joined} {o} {w} i = ap lease_of (own_is i)

-- After an answer they are so still.
pub told_member : {tm : TimingNumbers} {z : Sizes} {host : List ℕ} {who : Session} {joined : Bool} {o : OwnState} {w : Watched} (p : Purpose) (a : Answer) (now : ℕ) (n : OwnState)
    → IsMember tm z host who joined o w → n ≡ after_answer p a now o → IsMember tm z host who joined n w
told_member {tm} {z} {host} {who} {joined} {o} {w} p a now n i is =
    subst (λ q. IsMember tm z host who joined q w) (sym is)
    (record { timing = i.timing; sizes = i.sizes; named = i.named; lockspace = i.lockspace; id = i.id; watched = i.watched; times = i.times; claimed = i.claimed })

-- .. and after the watch was told.
pub watched_member : {tm : TimingNumbers} {z : Sizes} {host : List ℕ} {who : Session} {joined : Bool} {o : OwnState} {w : Watched} (v : Watched) → IsMember tm z host who joined o w
    → v.sizes ≡ w.sizes → v.timing ≡ w.timing → IsMember tm z host who joined o v
watched_member v i sizes timing =
    record { timing = i.timing; sizes = i.sizes; named = i.named; lockspace = i.lockspace; id = i.id; watched = sizes ∙ i.watched; times = timing ∙ i.times; claimed = i.claimed }
