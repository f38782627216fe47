-- What is shown of the acts part by part is put together.
use Rattle.sl_due_facts.specs.Acts.Acts.{Acts}
use Rattle.sl_due.specs.Steps.{Step}

-- Two things that are kept are kept together.
pub both : (I J K : Step → Type 0) → Acts I J → Acts I K → Acts I (λ x. J x × K x)
both I J K a b =
    record {
      kills = λ x s p1 p2 h. (a.kills x s p1 p2 h, b.kills x s p1 p2 h);
      times_out = λ x j m p1 p2 p3 p4 p5 h. (a.times_out x j m p1 p2 p3 p4 p5 h, b.times_out x j m p1 p2 p3 p4 p5 h);
      hears = λ x number answer p1 p2 p3 h. (a.hears x number answer p1 p2 p3 h, b.hears x number answer p1 p2 p3 h);
      counts = λ x text p1 p2 h. (a.counts x text p1 p2 h, b.counts x text p1 p2 h);
      exits = λ x p p1 p2 p3 h. (a.exits x p p1 p2 p3 h, b.exits x p p1 p2 p3 h);
      exits_as_none = λ x p p1 p2 p3 h. (a.exits_as_none x p p1 p2 p3 h, b.exits_as_none x p p1 p2 p3 h);
      starts = λ x p ok p1 p2 p3 h. (a.starts x p ok p1 p2 p3 h, b.starts x p ok p1 p2 p3 h);
      fails_to_start = λ x p p1 h. (a.fails_to_start x p p1 h, b.fails_to_start x p p1 h);
      signals_instead = λ x p q p1 p2 h. (a.signals_instead x p q p1 p2 h, b.signals_instead x p q p1 p2 h);
      says_started = λ x p j p1 p2 p3 h. (a.says_started x p j p1 p2 p3 h, b.says_started x p j p1 p2 p3 h);
      misreads = λ x text column p1 p2 p3 h. (a.misreads x text column p1 p2 p3 h, b.misreads x text column p1 p2 p3 h);
      answers = λ x text c r p1 p2 p3 p4 h. (a.answers x text c r p1 p2 p3 p4 h, b.answers x text c r p1 p2 p3 p4 h);
      carries = λ x text c d p1 p2 p3 p4 p5 h. (a.carries x text c d p1 p2 p3 p4 p5 h, b.carries x text c d p1 p2 p3 p4 p5 h);
      joins_on = λ x s j step m answer p1 p2 p3 h. (a.joins_on x s j step m answer p1 p2 p3 h, b.joins_on x s j step m answer p1 p2 p3 h);
      ends_joining = λ x s j step m answer p1 p2 p3 h. (a.ends_joining x s j step m answer p1 p2 p3 h, b.ends_joining x s j step m answer p1 p2 p3 h);
      renewed = λ x s m answer p1 p2 h. (a.renewed x s m answer p1 p2 h, b.renewed x s m answer p1 p2 h);
      freed = λ x s j m answer p1 p2 h. (a.freed x s j m answer p1 p2 h, b.freed x s j m answer p1 p2 h);
      shown = λ x s m bytes p1 p2 p3 p4 h. (a.shown x s m bytes p1 p2 p3 p4 h, b.shown x s m bytes p1 p2 p3 p4 h);
      sees = λ x s number bytes at g p1 p2 p3 h. (a.sees x s number bytes at g p1 p2 p3 h, b.sees x s number bytes at g p1 p2 p3 h);
      leads_on = λ x s work step m answer aim p1 p2 p3 p4 h. (a.leads_on x s work step m answer aim p1 p2 p3 p4 h, b.leads_on x s work step m answer aim p1 p2 p3 p4 h);
      fails = λ x s m j p1 p2 p3 h. (a.fails x s m j p1 p2 p3 h, b.fails x s m j p1 p2 p3 h);
      has_asked = λ x s m j owner p1 p2 p3 h. (a.has_asked x s m j owner p1 p2 p3 h, b.has_asked x s m j owner p1 p2 p3 h);
      has_set = λ x s m j p1 p2 p3 h. (a.has_set x s m j p1 p2 p3 h, b.has_set x s m j p1 p2 p3 h);
      asks = λ x s m j bytes c p1 p2 p3 p4 h. (a.asks x s m j bytes c p1 p2 p3 p4 h, b.asks x s m j bytes c p1 p2 p3 p4 h);
      tells = λ x s m j bytes p1 p2 p3 h. (a.tells x s m j bytes p1 p2 p3 h, b.tells x s m j bytes p1 p2 p3 h);
      warns = λ x s m bytes g signal p1 p2 p3 p4 p5 h. (a.warns x s m bytes g signal p1 p2 p3 p4 p5 h, b.warns x s m bytes g signal p1 p2 p3 p4 p5 h);
      joins_in_time = λ x s j p1 p2 p3 p4 h. (a.joins_in_time x s j p1 p2 p3 p4 h, b.joins_in_time x s j p1 p2 p3 p4 h);
      renews = λ x s p1 p2 p3 h. (a.renews x s p1 p2 p3 h, b.renews x s p1 p2 p3 h);
      settles = λ x s at p1 p2 p3 p4 p5 h. (a.settles x s at p1 p2 p3 p4 p5 h, b.settles x s at p1 p2 p3 p4 p5 h);
      parts = λ x s p1 p2 p3 p4 p5 h. (a.parts x s p1 p2 p3 p4 p5 h, b.parts x s p1 p2 p3 p4 p5 h);
      frees = λ x s p1 p2 p3 p4 p5 h. (a.frees x s p1 p2 p3 p4 p5 h, b.frees x s p1 p2 p3 p4 p5 h);
    }

-- Where less is asked than is known.
pub from_more : (I H J : Step → Type 0) → ((x : Step) → H x → I x) → Acts I J → Acts H J
from_more I H J f a =
    record {
      kills = λ x s p1 p2 h. a.kills x s p1 p2 (f x h);
      times_out = λ x j m p1 p2 p3 p4 p5 h. a.times_out x j m p1 p2 p3 p4 p5 (f x h);
      hears = λ x number answer p1 p2 p3 h. a.hears x number answer p1 p2 p3 (f x h);
      counts = λ x text p1 p2 h. a.counts x text p1 p2 (f x h);
      exits = λ x p p1 p2 p3 h. a.exits x p p1 p2 p3 (f x h);
      exits_as_none = λ x p p1 p2 p3 h. a.exits_as_none x p p1 p2 p3 (f x h);
      starts = λ x p ok p1 p2 p3 h. a.starts x p ok p1 p2 p3 (f x h);
      fails_to_start = λ x p p1 h. a.fails_to_start x p p1 (f x h);
      signals_instead = λ x p q p1 p2 h. a.signals_instead x p q p1 p2 (f x h);
      says_started = λ x p j p1 p2 p3 h. a.says_started x p j p1 p2 p3 (f x h);
      misreads = λ x text column p1 p2 p3 h. a.misreads x text column p1 p2 p3 (f x h);
      answers = λ x text c r p1 p2 p3 p4 h. a.answers x text c r p1 p2 p3 p4 (f x h);
      carries = λ x text c d p1 p2 p3 p4 p5 h. a.carries x text c d p1 p2 p3 p4 p5 (f x h);
      joins_on = λ x s j step m answer p1 p2 p3 h. a.joins_on x s j step m answer p1 p2 p3 (f x h);
      ends_joining = λ x s j step m answer p1 p2 p3 h. a.ends_joining x s j step m answer p1 p2 p3 (f x h);
      renewed = λ x s m answer p1 p2 h. a.renewed x s m answer p1 p2 (f x h);
      freed = λ x s j m answer p1 p2 h. a.freed x s j m answer p1 p2 (f x h);
      shown = λ x s m bytes p1 p2 p3 p4 h. a.shown x s m bytes p1 p2 p3 p4 (f x h);
      sees = λ x s number bytes at g p1 p2 p3 h. a.sees x s number bytes at g p1 p2 p3 (f x h);
      leads_on = λ x s work step m answer aim p1 p2 p3 p4 h. a.leads_on x s work step m answer aim p1 p2 p3 p4 (f x h);
      fails = λ x s m j p1 p2 p3 h. a.fails x s m j p1 p2 p3 (f x h);
      has_asked = λ x s m j owner p1 p2 p3 h. a.has_asked x s m j owner p1 p2 p3 (f x h);
      has_set = λ x s m j p1 p2 p3 h. a.has_set x s m j p1 p2 p3 (f x h);
      asks = λ x s m j bytes c p1 p2 p3 p4 h. a.asks x s m j bytes c p1 p2 p3 p4 (f x h);
      tells = λ x s m j bytes p1 p2 p3 h. a.tells x s m j bytes p1 p2 p3 (f x h);
      warns = λ x s m bytes g signal p1 p2 p3 p4 p5 h. a.warns x s m bytes g signal p1 p2 p3 p4 p5 (f x h);
      joins_in_time = λ x s j p1 p2 p3 p4 h. a.joins_in_time x s j p1 p2 p3 p4 (f x h);
      renews = λ x s p1 p2 p3 h. a.renews x s p1 p2 p3 (f x h);
      settles = λ x s at p1 p2 p3 p4 p5 h. a.settles x s at p1 p2 p3 p4 p5 (f x h);
      parts = λ x s p1 p2 p3 p4 p5 h. a.parts x s p1 p2 p3 p4 p5 (f x h);
      frees = λ x s p1 p2 p3 p4 p5 h. a.frees x s p1 p2 p3 p4 p5 (f x h);
    }
