use Rattle.gtpu_codec.proofs.SpellingLemmas.{both_ways}
use Rattle.gtpu_codec.proofs.MessageLemmas.{answers_message}
use Rattle.gtpu_codec.proofs.PlaceLemmas.{body_ends_counted}
use Rattle.gtpu_codec.proofs.reading.read.Goals as goal

pub returns : goal.returns
returns c =
    let octets = c.args.bytes.now in
    let facts = both_ways (λ body. body.now) octets c.parse.result c.parse.ensures.found c.parse.ensures.refused in
    record {
      found = c.parse.ensures.found;
      only = facts.0;
      refused = c.parse.ensures.refused;
      fault = facts.1;
      message = answers_message (λ body. body.now) octets c.parse.result c.parse.ensures.found c.parse.ensures.refused;
      place = body_ends_counted (λ body. body.now) octets c.parse.result c.parse.ensures.found;
    }
