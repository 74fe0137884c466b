-- The readers of a bundle own no thread's token, so they may go to another thread. Each part's own lemma leaves `search` steps for what holds it.
use denote.Param.Send.{IsSend, IsSync, sendable}
use Rattle.std.proofs.Crossing.{crosses}
use Rattle.nd_path.specs.contracts.path_text.PathText as PathText
use Rattle.nd_path.specs.contracts.store_path.StorePath as StorePath
use Rattle.nd_eligible.specs.contracts.need.Need as Need
use Rattle.nd_links.specs.contracts.name.Name as Name
use Rattle.nd_links.specs.contracts.names.Names as Names
use Rattle.nd_links.specs.contracts.want.Want as Want
use Rattle.nd_links.specs.contracts.shared_needs.SharedNeeds as SharedNeeds
use Rattle.nd_links.specs.contracts.details.Details as Details
use Rattle.nd_links.specs.contracts.columns.Columns as Columns
use Rattle.nd_links.specs.contracts.number.Numbers as Numbers
use Rattle.nd_bundle.specs.contracts.found.Found as Found
use Rattle.nd_bundle.specs.contracts.piece.Piece as Piece
use Rattle.nd_bundle.specs.contracts.gathered.Gathered as Gathered
use Rattle.nd_bundle.specs.contracts.reached.Reached as Reached
use Rattle.nd_bundle.specs.contracts.lines_reader.LinesReader as LinesReader
use Rattle.nd_bundle.specs.contracts.reader.BundleReader as BundleReader
use Rattle.nd_bundle.specs.contracts.needs_reader.NeedsReader as NeedsReader

text_send : IsSend PathText.the_field.row
text_send = search (sendable, crosses) depth 40 fits 20000

text_sync : IsSync PathText.the_field.row
text_sync = search (sendable, crosses) depth 40 fits 20000

path_send : IsSend StorePath.the_field.row
path_send = let a = text_send in let b = text_sync in search (sendable, crosses) depth 40 fits 20000

need_send : IsSend Need.the_field.row
need_send = search (sendable, crosses) depth 40 fits 20000

name_send : IsSend Name.the_field.row
name_send = search (sendable, crosses) depth 40 fits 20000

names_send : IsSend Names.the_field.row
names_send = let a = name_send in search (sendable, crosses) depth 40 fits 20000

want_send : IsSend Want.the_field.row
want_send = let a = path_send in let b = names_send in search (sendable, crosses) depth 40 fits 20000

shared_send : IsSend SharedNeeds.the_field.row
shared_send = let a = need_send in search (sendable, crosses) depth 40 fits 20000

details_send : IsSend Details.the_field.row
details_send = let a = path_send in let b = need_send in let d = names_send in let e = want_send in let f = shared_send in search (sendable, crosses) depth 40 fits 20000

columns_send : IsSend Columns.the_field.row
columns_send = let a = path_send in let b = details_send in search (sendable, crosses) depth 40 fits 20000

numbers_send : IsSend Numbers.the_field.row
numbers_send = let a = path_send in search (sendable, crosses) depth 40 fits 20000

found_send : IsSend Found.the_field.row
found_send = let a = numbers_send in let b = details_send in search (sendable, crosses) depth 40 fits 20000

piece_send : IsSend Piece.the_field.row
piece_send = let a = columns_send in search (sendable, crosses) depth 40 fits 20000

gathered_send : IsSend Gathered.the_field.row
gathered_send = let a = found_send in let b = piece_send in search (sendable, crosses) depth 40 fits 20000

reached_send : IsSend Reached.the_field.row
reached_send = let a = gathered_send in search (sendable, crosses) depth 40 fits 20000

lines_send : IsSend LinesReader.the_field.row
lines_send = let a = reached_send in search (sendable, crosses) depth 40 fits 20000

pub graph_send : IsSend BundleReader.the_field.row
graph_send = let a = lines_send in search (sendable, crosses) depth 40 fits 20000

pub needs_send : IsSend NeedsReader.the_field.row
needs_send = let a = lines_send in search (sendable, crosses) depth 40 fits 20000
