use Rattle.gtpu_codec.proofs.ExtensionLemmas.{chain_answers}
use Rattle.gtpu_codec.proofs.extension.skip_headers.Goals as goal

pub returns : goal.returns
returns c =
    let facts = chain_answers (λ body. body.now) c.walk.result c.args.first_type c.args.octets.now c.walk.ensures in
    record { found = facts.0; only = facts.1; broken = facts.2 }
