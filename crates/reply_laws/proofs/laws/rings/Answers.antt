use Rattle.reply_laws.proofs.Together.{rings_list_tiles}
use Rattle.reply_laws.proofs.laws.rings.Goals as goal

pub returns : goal.returns
returns c = record { list = rings_list_tiles }
