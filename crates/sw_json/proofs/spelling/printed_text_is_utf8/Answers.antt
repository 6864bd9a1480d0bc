use Rattle.sw_json.proofs.PrintedUtf8.{image_utf8, printed_utf8}
use Rattle.sw_json.proofs.spelling.printed_text_is_utf8.Goals as goal

pub returns-clause-image : goal.returns-clause-image
returns-clause-image c = image_utf8

pub returns-clause-printed : goal.returns-clause-printed
returns-clause-printed c = printed_utf8
