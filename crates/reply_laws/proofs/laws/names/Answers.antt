use Rattle.reply_laws.proofs.Together.{answers_tell_related}
use Rattle.reply_laws.proofs.Together.{answers_tell_tiles}
use Rattle.reply_laws.proofs.laws.names.Goals as goal

pub returns-clause-tiles : goal.returns-clause-tiles
returns-clause-tiles c = answers_tell_tiles

pub returns-clause-related : goal.returns-clause-related
returns-clause-related c = answers_tell_related
