-- What follows from what is kept is kept.
use Rattle.sl_due_facts.specs.Acts.Acts.{Acts}
use Rattle.sl_due.specs.Steps.{Step}

-- Where less is asked than is kept.
pub to_less : (I J L : Step → Type 0) → ((x : Step) → J x → L x) → Acts I J → Acts I L
to_less I J L f a =
    record {
      kills = λ x s p1 p2 h. f _ (a.kills x s p1 p2 h);
      times_out = λ x j m p1 p2 p3 p4 p5 h. f _ (a.times_out x j m p1 p2 p3 p4 p5 h);
      hears = λ x number answer p1 p2 p3 h. f _ (a.hears x number answer p1 p2 p3 h);
      counts = λ x text p1 p2 h. f _ (a.counts x text p1 p2 h);
      exits = λ x p p1 p2 p3 h. f _ (a.exits x p p1 p2 p3 h);
      exits_as_none = λ x p p1 p2 p3 h. f _ (a.exits_as_none x p p1 p2 p3 h);
      starts = λ x p ok p1 p2 p3 h. f _ (a.starts x p ok p1 p2 p3 h);
      fails_to_start = λ x p p1 h. f _ (a.fails_to_start x p p1 h);
      signals_instead = λ x p q p1 p2 h. f _ (a.signals_instead x p q p1 p2 h);
      says_started = λ x p j p1 p2 p3 h. f _ (a.says_started x p j p1 p2 p3 h);
      misreads = λ x text column p1 p2 p3 h. f _ (a.misreads x text column p1 p2 p3 h);
      answers = λ x text c r p1 p2 p3 p4 h. f _ (a.answers x text c r p1 p2 p3 p4 h);
      carries = λ x text c d p1 p2 p3 p4 p5 h. f _ (a.carries x text c d p1 p2 p3 p4 p5 h);
      joins_on = λ x s j step m answer p1 p2 p3 h. f _ (a.joins_on x s j step m answer p1 p2 p3 h);
      ends_joining = λ x s j step m answer p1 p2 p3 h. f _ (a.ends_joining x s j step m answer p1 p2 p3 h);
      renewed = λ x s m answer p1 p2 h. f _ (a.renewed x s m answer p1 p2 h);
      freed = λ x s j m answer p1 p2 h. f _ (a.freed x s j m answer p1 p2 h);
      shown = λ x s m bytes p1 p2 p3 p4 h. f _ (a.shown x s m bytes p1 p2 p3 p4 h);
      sees = λ x s number bytes at g p1 p2 p3 h. f _ (a.sees x s number bytes at g p1 p2 p3 h);
      leads_on = λ x s work step m answer aim p1 p2 p3 p4 h. f _ (a.leads_on x s work step m answer aim p1 p2 p3 p4 h);
      fails = λ x s m j p1 p2 p3 h. f _ (a.fails x s m j p1 p2 p3 h);
      has_asked = λ x s m j owner p1 p2 p3 h. f _ (a.has_asked x s m j owner p1 p2 p3 h);
      has_set = λ x s m j p1 p2 p3 h. f _ (a.has_set x s m j p1 p2 p3 h);
      asks = λ x s m j bytes c p1 p2 p3 p4 h. f _ (a.asks x s m j bytes c p1 p2 p3 p4 h);
      tells = λ x s m j bytes p1 p2 p3 h. f _ (a.tells x s m j bytes p1 p2 p3 h);
      warns = λ x s m bytes g signal p1 p2 p3 p4 p5 h. f _ (a.warns x s m bytes g signal p1 p2 p3 p4 p5 h);
      joins_in_time = λ x s j p1 p2 p3 p4 h. f _ (a.joins_in_time x s j p1 p2 p3 p4 h);
      renews = λ x s p1 p2 p3 h. f _ (a.renews x s p1 p2 p3 h);
      settles = λ x s at p1 p2 p3 p4 p5 h. f _ (a.settles x s at p1 p2 p3 p4 p5 h);
      parts = λ x s p1 p2 p3 p4 p5 h. f _ (a.parts x s p1 p2 p3 p4 p5 h);
      frees = λ x s p1 p2 p3 p4 p5 h. f _ (a.frees x s p1 p2 p3 p4 p5 h);
    }
