use Rattle.hw_cert_lines.proofs.PriceRows as rows
use Rattle.hw_cert_lines.proofs.laws.price_line_rows.Goals as goal

pub returns : goal.returns
returns c = rows.price_line_rows
